-- What A2.3 means: in exact arithmetic row d of the basis has the derivatives of order d of the four functions by the recursion of Cox and de Boor,
-- whatever order is asked for, and the values sum to 1. Assumes nothing.
--
-- `Values.antt` has the table, `Orders.antt` what A2.3's coefficients come to, `Derived.antt` what the recursion's quotients come to. All of it is over
-- eight knots with the span at index 3, where every index computes; here it is carried to any list of knots and any span.
use mathlib.Core.Path.{◌≡◌, refl, sym, ap, ◌∙◌}
use mathlib.Core.Logic.{◌≢◌}
use mathlib.Core.List.{List, [], ◌∷◌}
use Prim.Native.Nat.{ℕ, zero, suc, ◌+◌, ◌-◌, ◌≤◌, min}
use native.Mathlib.Omega.{arith}
use lib.ListN.{get_or}
use lib.Ieee.{mul, of_bits, of_int, round}
use Rattle.meaning.specs.Scalar.{Ops, zero64, one64}
use Rattle.meaning.specs.Loops.{turns}
use Rattle.meaning.specs.Table.{at1, at2}
use Rattle.basis.specs.Triangle.{Sides, column_turn, column_of, sides_turn, triangle_of}
use Rattle.basis.specs.Basis.{values_of, order_turn, function_of, functions_of, scaled_row, scale_turn, scaled, derivatives_of, basis_of}
use Rattle.basis.proofs.Laws.{basis_in}
use Rattle.basis_laws.proofs.Field.{through}
use Rattle.basis_laws.proofs.Values.{entry_01, entry_11, entry_02, entry_12, entry_22, values-eight, sum_eight}
use Rattle.basis_laws.proofs.Orders.{order_1, order_2, order_3}
use Rattle.basis_laws.proofs.Derived.{bare, factor_1, factor_2, factor_3, change_1, change_2, change_3}
use Rattle.basis_laws.specs.Recursion.{Field, whole, cox_de_boor, derived, eight, Apart}

module _ {A : Type 0} (o : Ops A) (e : Field o) where
  -- the operations as these laws write them
  infixl 70 ◌⊕◌ ◌⊖◌
  infixl 80 ◌⊗◌ ◌⊘◌
  abbrev ◌⊕◌ : A → A → A
  a ⊕ b = o.plus a b

  abbrev ◌⊖◌ : A → A → A
  a ⊖ b = o.minus a b

  abbrev ◌⊗◌ : A → A → A
  a ⊗ b = o.times a b

  abbrev ◌⊘◌ : A → A → A
  a ⊘ b = o.over a b

  abbrev opp : A → A
  opp a = o.opp a

  abbrev nought : A
  nought = o.cst zero64

  abbrev one : A
  one = o.cst one64

  -- ---- rows of the answer, from any table

  -- a row times a factor
  abbrev by : A → List A → List A
  by c l = at1 o l 0 ⊗ c ∷ at1 o l 1 ⊗ c ∷ at1 o l 2 ⊗ c ∷ at1 o l 3 ⊗ c ∷ []

  module _ (ndu : List (List A)) where
    abbrev answer : ℕ → List (List A)
    answer n = scaled o n (functions_of o ndu n (values_of o ndu))

    abbrev order : ℕ → List A
    order d = get_or (functions_of o ndu 3 (values_of o ndu)) d []

    -- a row is the same for each n that reaches it
    row_0 : (n : ℕ) → n ≤ 3 → get_or (answer n) 0 [] ≡ get_or (values_of o ndu) 0 []
    unfolding scaled scale_turn scaled_row functions_of function_of order_turn values_of turns
    row_0 zero h = refl
    row_0 (suc zero) h = refl
    row_0 (suc (suc zero)) h = refl
    row_0 (suc (suc (suc zero))) h = refl
    row_0 (suc (suc (suc (suc n)))) h = absurd (omega arith)

    row_1 : (n : ℕ) → 1 ≤ n → n ≤ 3 → get_or (answer n) 1 [] ≡ by (whole o 3) (order 1)
    unfolding scaled scale_turn scaled_row functions_of function_of order_turn values_of turns mul of_bits of_int round
    row_1 zero l h = absurd (omega arith)
    row_1 (suc zero) l h = refl
    row_1 (suc (suc zero)) l h = refl
    row_1 (suc (suc (suc zero))) l h = refl
    row_1 (suc (suc (suc (suc n)))) l h = absurd (omega arith)

    row_2 : (n : ℕ) → 2 ≤ n → n ≤ 3 → get_or (answer n) 2 [] ≡ by (whole o 6) (order 2)
    unfolding scaled scale_turn scaled_row functions_of function_of order_turn values_of turns mul of_bits of_int round
    row_2 zero l h = absurd (omega arith)
    row_2 (suc zero) l h = absurd (omega arith)
    row_2 (suc (suc zero)) l h = refl
    row_2 (suc (suc (suc zero))) l h = refl
    row_2 (suc (suc (suc (suc n)))) l h = absurd (omega arith)

    row_3 : (n : ℕ) → 3 ≤ n → n ≤ 3 → get_or (answer n) 3 [] ≡ by (whole o 6) (order 3)
    unfolding scaled scale_turn scaled_row functions_of function_of order_turn values_of turns mul of_bits of_int round
    row_3 zero l h = absurd (omega arith)
    row_3 (suc zero) l h = absurd (omega arith)
    row_3 (suc (suc zero)) l h = absurd (omega arith)
    row_3 (suc (suc (suc zero))) l h = refl
    row_3 (suc (suc (suc (suc n)))) l h = absurd (omega arith)

  -- ---- over eight knots

  module _ (u0 u1 u2 u3 u4 u5 u6 u7 t : A) where
    abbrev knots : List A
    knots = u0 ∷ u1 ∷ u2 ∷ u3 ∷ u4 ∷ u5 ∷ u6 ∷ u7 ∷ []

    abbrev table : List (List A)
    table = triangle_of o knots 3 t

    abbrev bares : ℕ → List A
    bares d = bare o knots 3 t d 0 3 ∷ bare o knots 3 t d 1 3 ∷ bare o knots 3 t d 2 3 ∷ bare o knots 3 t d 3 3 ∷ []

    -- the table's differences and values as the recursion has them
    gap_10 : at2 o table 1 0 ≡ u4 ⊖ u3
    unfolding triangle_of sides_turn column_of column_turn turns
    gap_10 = through o e u4 t u3

    gap_20 : at2 o table 2 0 ≡ u4 ⊖ u2
    unfolding triangle_of sides_turn column_of column_turn turns
    gap_20 = through o e u4 t u2

    gap_21 : at2 o table 2 1 ≡ u5 ⊖ u3
    unfolding triangle_of sides_turn column_of column_turn turns
    gap_21 = through o e u5 t u3

    gap_30 : at2 o table 3 0 ≡ u4 ⊖ u1
    unfolding triangle_of sides_turn column_of column_turn turns
    gap_30 = through o e u4 t u1

    gap_31 : at2 o table 3 1 ≡ u5 ⊖ u2
    unfolding triangle_of sides_turn column_of column_turn turns
    gap_31 = through o e u5 t u2

    gap_32 : at2 o table 3 2 ≡ u6 ⊖ u3
    unfolding triangle_of sides_turn column_of column_turn turns
    gap_32 = through o e u6 t u3

    z : at2 o table 0 0 ≡ cox_de_boor o knots 3 t 3 0
    unfolding triangle_of sides_turn column_of column_turn turns cox_de_boor
    z = refl

    y2 : at2 o table 0 1 ≡ cox_de_boor o knots 3 t 2 1
    y2 = entry_01 o e u0 u1 u2 u3 u4 u5 u6 u7 t

    y3 : at2 o table 1 1 ≡ cox_de_boor o knots 3 t 3 1
    y3 = entry_11 o e u0 u1 u2 u3 u4 u5 u6 u7 t

    x1 : at2 o table 0 2 ≡ cox_de_boor o knots 3 t 1 2
    x1 = entry_02 o e u0 u1 u2 u3 u4 u5 u6 u7 t

    x2 : at2 o table 1 2 ≡ cox_de_boor o knots 3 t 2 2
    x2 = entry_12 o e u0 u1 u2 u3 u4 u5 u6 u7 t

    x3 : at2 o table 2 2 ≡ cox_de_boor o knots 3 t 3 2
    x3 = entry_22 o e u0 u1 u2 u3 u4 u5 u6 u7 t

    orders_1 : order table 1 ≡ bares 1
    orders_1 =
        order_1 o e table
        ∙ (λ i. opp (x1 i ⊘ gap_30 i) ∷ x1 i ⊘ gap_30 i ⊖ x2 i ⊘ gap_31 i
        ∷ x2 i ⊘ gap_31 i ⊖ x3 i ⊘ gap_32 i ∷ x3 i ⊘ gap_32 i ∷ [])
        ∙ sym (change_1 o e u0 u1 u2 u3 u4 u5 u6 u7 t)

    orders_2 : order table 2 ≡ bares 2
    orders_2 =
        order_2 o e table
        ∙ (λ i. y2 i ⊘ gap_20 i ⊘ gap_30 i
        ∷ opp (y2 i ⊘ gap_20 i ⊘ gap_30 i) ⊖ (y2 i ⊘ gap_20 i ⊘ gap_31 i ⊖ y3 i ⊘ gap_21 i ⊘ gap_31 i)
        ∷ y2 i ⊘ gap_20 i ⊘ gap_31 i ⊖ y3 i ⊘ gap_21 i ⊘ gap_31 i ⊖ y3 i ⊘ gap_21 i ⊘ gap_32 i
        ∷ y3 i ⊘ gap_21 i ⊘ gap_32 i ∷ [])
        ∙ sym (change_2 o e u0 u1 u2 u3 u4 u5 u6 u7 t)

    orders_3 : order table 3 ≡ bares 3
    orders_3 =
        order_3 o e table
        ∙ (λ i. opp (z i ⊘ gap_10 i ⊘ gap_20 i ⊘ gap_30 i)
        ∷ z i ⊘ gap_10 i ⊘ gap_20 i ⊘ gap_30 i
        ⊖ (opp (z i ⊘ gap_10 i ⊘ gap_20 i ⊘ gap_31 i) ⊖ z i ⊘ gap_10 i ⊘ gap_21 i ⊘ gap_31 i)
        ∷ opp (z i ⊘ gap_10 i ⊘ gap_20 i ⊘ gap_31 i) ⊖ z i ⊘ gap_10 i ⊘ gap_21 i ⊘ gap_31 i
        ⊖ z i ⊘ gap_10 i ⊘ gap_21 i ⊘ gap_32 i
        ∷ z i ⊘ gap_10 i ⊘ gap_21 i ⊘ gap_32 i ∷ [])
        ∙ sym (change_3 o e u0 u1 u2 u3 u4 u5 u6 u7 t)

    abbrev deriveds : ℕ → List A
    deriveds d = derived o knots 3 t d 0 3 ∷ derived o knots 3 t d 1 3 ∷ derived o knots 3 t d 2 3 ∷ derived o knots 3 t d 3 3 ∷ []

    -- each row with its factor
    eight_0 : (n : ℕ) → n ≤ 3 → get_or (answer table n) 0 [] ≡ deriveds 0
    unfolding derived
    eight_0 n h = row_0 table n h ∙ values-eight o e u0 u1 u2 u3 u4 u5 u6 u7 t

    eight_1 : (n : ℕ) → 1 ≤ n → n ≤ 3 → get_or (answer table n) 1 [] ≡ deriveds 1
    eight_1 n l h =
        row_1 table n l h ∙ ap (by (whole o 3)) orders_1
        ∙ sym (λ i. factor_1 o e knots 3 t 0 i ∷ factor_1 o e knots 3 t 1 i ∷ factor_1 o e knots 3 t 2 i ∷ factor_1 o e knots 3 t 3 i ∷ [])

    eight_2 : (n : ℕ) → 2 ≤ n → n ≤ 3 → get_or (answer table n) 2 [] ≡ deriveds 2
    eight_2 n l h =
        row_2 table n l h ∙ ap (by (whole o 6)) orders_2
        ∙ sym (λ i. factor_2 o e knots 3 t 0 i ∷ factor_2 o e knots 3 t 1 i ∷ factor_2 o e knots 3 t 2 i ∷ factor_2 o e knots 3 t 3 i ∷ [])

    eight_3 : (n : ℕ) → 3 ≤ n → n ≤ 3 → get_or (answer table n) 3 [] ≡ deriveds 3
    eight_3 n l h =
        row_3 table n l h ∙ ap (by (whole o 6)) orders_3
        ∙ sym (λ i. factor_3 o e knots 3 t 0 i ∷ factor_3 o e knots 3 t 1 i ∷ factor_3 o e knots 3 t 2 i ∷ factor_3 o e knots 3 t 3 i ∷ [])

    eight-row : (d n : ℕ) → d ≤ n → n ≤ 3 → get_or (answer table n) d [] ≡ deriveds d
    eight-row zero n l h = eight_0 n h
    eight-row (suc zero) n l h = eight_1 n l h
    eight-row (suc (suc zero)) n l h = eight_2 n l h
    eight-row (suc (suc (suc zero))) n l h = eight_3 n l h
    eight-row (suc (suc (suc (suc d)))) n l h = absurd (omega arith)

  -- ---- over any knots, and any span that has eight

  module _ (u : List A) (i : ℕ) (t : A) (low : 3 ≤ i) where
    -- a turn of the table reads two knots
    side_reads : (j : ℕ) (s : Sides A) → at1 o (eight o u i) (3 + 1 - j) ≡ at1 o u (i + 1 - j) → at1 o (eight o u i) (3 + j) ≡ at1 o u (i + j)
        → sides_turn o (eight o u i) 3 t j s ≡ sides_turn o u i t j s
    unfolding sides_turn
    side_reads j s p q = rw (p, q)

    table_eight : triangle_of o (eight o u i) 3 t ≡ triangle_of o u i t
    unfolding triangle_of turns
    table_eight =
        let knot : (a b : ℕ) → a ≡ b → at1 o u a ≡ at1 o u b = λ a b e. ap (at1 o u) e in
        ap (λ (s : Sides A). s.ndu)
        (side_reads 3 _ (knot (i - 3 + 1) (i + 1 - 3) (omega arith)) (knot (i - 3 + 6) (i + 3) (omega arith))
        ∙ ap (sides_turn o u i t 3) (side_reads 2 _ (knot (i - 3 + 2) (i + 1 - 2) (omega arith)) (knot (i - 3 + 5) (i + 2) (omega arith))
        ∙ ap (sides_turn o u i t 2) (side_reads 1 _ (knot (i - 3 + 3) (i + 1 - 1) (omega arith)) (knot (i - 3 + 4) (i + 1) (omega arith)))))

    -- the derivative of order d of function k, one of the four that are not 0 on the span
    abbrev exact : ℕ → ℕ → A
    exact d k = derived o (eight o u i) 3 t d k 3

    -- Row d of the basis, of any order nd that reaches it.
    pub basis_recursion : i ≤ 65 → (d nd : ℕ) → d ≤ nd → d ≤ 3 → get_or (basis_of o u i t nd) d [] ≡ exact d 0 ∷ exact d 1 ∷ exact d 2 ∷ exact d 3 ∷ []
    unfolding derivatives_of
    basis_recursion high d nd l h =
        ap (λ (r : List (List A)). get_or r d []) (sym (basis_in o u i t nd low high))
        ∙ ap (λ (ndu : List (List A)). get_or (answer ndu (min nd 3)) d []) (sym table_eight)
        ∙ eight-row _ _ _ _ _ _ _ _ t d (min nd 3) (omega arith) (omega arith)

    -- The four values sum to 1.
    pub basis_sum : Apart o u i → exact 0 0 ⊕ exact 0 1 ⊕ exact 0 2 ⊕ exact 0 3 ≡ one
    unfolding derived
    basis_sum h =
        sum_eight o e _ _ _ _ _ _ _ _ t (apart 0 0 4 3 (omega arith) (omega arith) (omega arith)) (apart 1 0 4 2 (omega arith) (omega arith) (omega arith))
        (apart 0 1 5 3 (omega arith) (omega arith) (omega arith)) (apart 2 0 4 1 (omega arith) (omega arith) (omega arith))
        (apart 1 1 5 2 (omega arith) (omega arith) (omega arith)) (apart 0 2 6 3 (omega arith) (omega arith) (omega arith))
      where
        apart : (l r a b : ℕ) → l + r ≤ 2 → i + 1 + r ≡ i - 3 + a → i - l ≡ i - 3 + b → at1 o u (i - 3 + a) ⊖ at1 o u (i - 3 + b) ≢ nought
        apart l r a b g p q = rw (p, q) at (h l r g)
