-- What A2.3's table and its loops come to at order 0 and at order 2, written out. Assumes nothing.
use mathlib.Core.Path.{◌≡◌, refl, ◌∙◌}
use mathlib.Core.List.{List, [], ◌∷◌}
use lib.ListN.{get_or}
use lib.Ieee.{mul, of_bits, of_int, round}
use Rattle.meaning.specs.Scalar.{Ops, zero64, one64}
use Rattle.meaning.specs.Loops.{turns}
use Rattle.meaning.specs.Table.{at1}
use Rattle.basis.specs.Triangle.{Cell, cell_of, column_turn, column_of, sides_turn, triangle_of}
use Rattle.basis.specs.Derivatives.{first_coef, mid_turn, mid_coefs, last_coef, order_of}
use Rattle.basis.specs.Basis.{values_of, order_turn, function_of, functions_of, scaled_row, scale_turn, scaled, derivatives_of}
use Rattle.basis_straight.specs.Second.{entries_of, function0, function1, function2, function3}

module _ {A : Type 0} (o : Ops A) where
  -- the second derivatives, over any table
  second_of_table : (ndu : List (List A)) → let e = entries_of o ndu in
      (function0 o e ∷ function1 o e ∷ function2 o e ∷ function3 o e ∷ []) ≡ get_or (scaled o 2 (functions_of o ndu 2 (values_of o ndu))) 2 []
  unfolding scaled scale_turn scaled_row functions_of function_of order_turn values_of order_of last_coef mid_coefs mid_turn first_coef turns mul of_bits of_int round
  second_of_table ndu = refl

  module _ (w : List A) (t : A) where
    -- the values are what the table's last column holds
    values_are :
        let l1 = o.minus t (at1 o w 2) in
        let l2 = o.minus t (at1 o w 1) in
        let l3 = o.minus t (at1 o w 0) in
        let r1 = o.minus (at1 o w 3) t in
        let r2 = o.minus (at1 o w 4) t in
        let r3 = o.minus (at1 o w 5) t in
        let zero = o.cst zero64 in
        let a = cell_of o r1 l1 (o.cst one64) zero in
        let b = cell_of o r1 l2 a.value zero in
        let c = cell_of o r2 l1 a.saved b.saved in
        let d = cell_of o r1 l3 b.value zero in
        let e = cell_of o r2 l2 c.value d.saved in
        let f = cell_of o r3 l1 c.saved e.saved in
        (d.value ∷ e.value ∷ f.value ∷ f.saved ∷ []) ≡ get_or (derivatives_of o w 2 t 0) 0 []
    unfolding derivatives_of triangle_of sides_turn column_of column_turn values_of functions_of function_of scaled turns
    values_are = refl

    -- the entries that the second derivatives read
    entries-are :
        let l1 = o.minus t (at1 o w 2) in
        let l2 = o.minus t (at1 o w 1) in
        let l3 = o.minus t (at1 o w 0) in
        let r1 = o.minus (at1 o w 3) t in
        let r2 = o.minus (at1 o w 4) t in
        let r3 = o.minus (at1 o w 5) t in
        let a = cell_of o r1 l1 (o.cst one64) (o.cst zero64) in
        record {
          g20 = o.plus r1 l2;
          g21 = o.plus r2 l1;
          g30 = o.plus r1 l3;
          g31 = o.plus r2 l2;
          g32 = o.plus r3 l1;
          low = a.value;
          high = a.saved;
        } ≡ entries_of o (triangle_of o w 2 t)
    unfolding triangle_of sides_turn column_of column_turn turns
    entries-are = refl

    -- the second derivatives, over the table of a span
    pub second_are : let e = entries_of o (triangle_of o w 2 t) in
        (function0 o e ∷ function1 o e ∷ function2 o e ∷ function3 o e ∷ []) ≡ get_or (derivatives_of o w 2 t 2) 2 []
    unfolding derivatives_of
    second_are = second_of_table (triangle_of o w 2 t)

  -- the values and the entries, from numbers that were made one after another
  module _ (w : List A) (t : A) {l1 l2 l3 r1 r2 r3 zero one : A}
      (p1 : l1 ≡ o.minus t (at1 o w 2)) (p2 : l2 ≡ o.minus t (at1 o w 1)) (p3 : l3 ≡ o.minus t (at1 o w 0))
      (s1 : r1 ≡ o.minus (at1 o w 3) t) (s2 : r2 ≡ o.minus (at1 o w 4) t) (s3 : r3 ≡ o.minus (at1 o w 5) t)
      (z : zero ≡ o.cst zero64) (n : one ≡ o.cst one64) where
    pub values_made : {a b c d e f : Cell A}
        → a ≡ cell_of o r1 l1 one zero → b ≡ cell_of o r1 l2 a.value zero → c ≡ cell_of o r2 l1 a.saved b.saved
        → d ≡ cell_of o r1 l3 b.value zero → e ≡ cell_of o r2 l2 c.value d.saved → f ≡ cell_of o r3 l1 c.saved e.saved
        → (d.value ∷ e.value ∷ f.value ∷ f.saved ∷ []) ≡ get_or (derivatives_of o w 2 t 0) 0 []
    values_made ma mb mc md me mf =
        let ea = ma ∙ (λ i. cell_of o (s1 i) (p1 i) (n i) (z i)) in
        let eb = mb ∙ (λ i. cell_of o (s1 i) (p2 i) (ea i).value (z i)) in
        let ec = mc ∙ (λ i. cell_of o (s2 i) (p1 i) (ea i).saved (eb i).saved) in
        let ed = md ∙ (λ i. cell_of o (s1 i) (p3 i) (eb i).value (z i)) in
        let ee = me ∙ (λ i. cell_of o (s2 i) (p2 i) (ec i).value (ed i).saved) in
        let ef = mf ∙ (λ i. cell_of o (s3 i) (p1 i) (ec i).saved (ee i).saved) in
        (λ i. (ed i).value ∷ (ee i).value ∷ (ef i).value ∷ (ef i).saved ∷ []) ∙ values_are w t

    pub entries_made : {a : Cell A} {g20 g21 g30 g31 g32 : A}
        → a ≡ cell_of o r1 l1 one zero → g20 ≡ o.plus r1 l2 → g21 ≡ o.plus r2 l1 → g30 ≡ o.plus r1 l3 → g31 ≡ o.plus r2 l2 → g32 ≡ o.plus r3 l1
        → record { g20 = g20; g21 = g21; g30 = g30; g31 = g31; g32 = g32; low = a.value; high = a.saved } ≡ entries_of o (triangle_of o w 2 t)
    entries_made ma m20 m21 m30 m31 m32 =
        let ea = ma ∙ (λ i. cell_of o (s1 i) (p1 i) (n i) (z i)) in
        let e20 = m20 ∙ (λ i. o.plus (s1 i) (p2 i)) in
        let e21 = m21 ∙ (λ i. o.plus (s2 i) (p1 i)) in
        let e30 = m30 ∙ (λ i. o.plus (s1 i) (p3 i)) in
        let e31 = m31 ∙ (λ i. o.plus (s2 i) (p2 i)) in
        let e32 = m32 ∙ (λ i. o.plus (s3 i) (p1 i)) in
        (λ i. record { g20 = e20 i; g21 = e21 i; g30 = e30 i; g31 = e31 i; g32 = e32 i; low = (ea i).value; high = (ea i).saved }) ∙ entries-are w t
