-- Each composed definition from its parts, over any scalar: the proofs of the code cite these. Assumes nothing.
use mathlib.Core.Path.{◌≡◌, refl, sym, ap, ◌∙◌}
use Prim.Native.Nat.{ℕ, zero, suc, ◌+◌, ◌-◌, ◌≤◌, ◌<◌, min}
use mathlib.Core.List.{List, [], ◌∷◌, map}
use lib.ListN.{length, get_or, set}
use native.Mathlib.Omega.{arith}
use Rattle.std.proofs.lemmas.List.{get_or-set_same, set-set, set-get_or}
use lib.IntN.{ℤ, pos}
use lib.Ieee.{Float, binary64, mul, of_int}
use borrow.Author.Tests.{le-leb, lt-leb}
use Rattle.meaning.specs.Scalar.{Ops, zero64}
use Rattle.meaning.specs.Loops.{turns, run}
use Rattle.meaning.specs.Table.{at1, at2, put2}
use Rattle.basis_columns.specs.Columns.{below, column_at}
use Rattle.basis.specs.Triangle.{four_zeros, Cell, Column, Sides, cell_of, column_turn, column_of, sides_turn, no_sides, triangle_of}
use Rattle.basis.specs.Derivatives.{Coefs, gap_at, value_at, first_put, mid_put, last_put, first_coef, mid_turn, mid_coefs, last_coef, cleared, swapped, order_of}
use Rattle.basis.specs.Basis.{Orders, Scaling, no_orders, values_of, order_turn, function_of, functions_of, scaled_row, scale_turn, scaled, derivatives_of, basis_of}

module _ {A : Type 0} (o : Ops A) where
  -- ---- the table

  pub column_turn_lem : (left right : List A) (j r : ℕ) (s : Column A) {c : Cell A} {q : List (List A)}
      → c ≡ cell_of o (at1 o right (r + 1)) (at1 o left (j - r)) (at2 o s.ndu r (j - 1)) s.saved
      → q ≡ put2 (put2 s.ndu j r c.gap) r j c.value
      → record { ndu = q; saved = c.saved } ≡ column_turn o left right j r s
  unfolding column_turn
  column_turn_lem left right j r s e f = rw f rw e

  pub column_of_lem : (left right : List A) (j : ℕ) (ndu : List (List A)) (s : Column A)
      → s ≡ run 0 j (column_turn o left right j) (record { ndu = ndu; saved = o.cst zero64 }) → put2 s.ndu j j s.saved ≡ column_of o left right j ndu
  unfolding column_of
  column_of_lem left right j ndu s e = ap (λ (x : Column A). put2 x.ndu j j x.saved) e

  pub sides_turn_lem : (u : List A) (i : ℕ) (t : A) (j : ℕ) (s : Sides A) {q : List (List A)}
      → q ≡ column_of o (set s.left j (o.minus t (at1 o u (i + 1 - j)))) (set s.right j (o.minus (at1 o u (i + j)) t)) j s.ndu
      → record { ndu = q; left = set s.left j (o.minus t (at1 o u (i + 1 - j))); right = set s.right j (o.minus (at1 o u (i + j)) t) }
      ≡ sides_turn o u i t j s
  unfolding sides_turn
  sides_turn_lem u i t j s e = rw e

  pub triangle_of_lem : (u : List A) (i : ℕ) (t : A) (s : Sides A) → s ≡ run 1 4 (sides_turn o u i t) (no_sides o) → s.ndu ≡ triangle_of o u i t
  unfolding triangle_of
  triangle_of_lem u i t s e = ap (λ (x : Sides A). x.ndu) e

  -- ---- an order

  pub first_taken : (ndu : List (List A)) (r k : ℕ) (s : Coefs A) {c : ℕ} {q : Coefs A}
      → k ≤ r → c ≡ column_at (below r k) 0 → q ≡ first_put o (gap_at o ndu k c) (value_at o ndu k c) s → q ≡ first_coef o ndu r k s
  unfolding first_coef
  first_taken ndu r k s h e p = p ∙ ap (λ c. first_put o (gap_at o ndu k c) (value_at o ndu k c) s) e ∙ simp (le-leb k r h)

  pub first-left : (ndu : List (List A)) (r k : ℕ) (s : Coefs A) → r < k → s ≡ first_coef o ndu r k s
  unfolding first_coef
  first-left ndu r k s h = simp (lt-leb k r h)

  pub mid_turn_lem : (ndu : List (List A)) (rk : ℤ) (k j : ℕ) (s : Coefs A) {c : ℕ} {q : Coefs A}
      → c ≡ column_at rk j → q ≡ mid_put o (gap_at o ndu k c) (value_at o ndu k c) j s → q ≡ mid_turn o ndu rk k j s
  unfolding mid_turn
  mid_turn_lem ndu rk k j s e p = p ∙ ap (λ c. mid_put o (gap_at o ndu k c) (value_at o ndu k c) j s) e

  pub last_taken : (ndu : List (List A)) (r k : ℕ) (s : Coefs A) {q : Coefs A}
      → r ≤ 3 - k → q ≡ last_put o (gap_at o ndu k r) (value_at o ndu k r) k s → q ≡ last_coef o ndu r k s
  unfolding last_coef
  last_taken ndu r k s h p = p ∙ simp (le-leb r (3 - k) h)

  pub last-left : (ndu : List (List A)) (r k : ℕ) (s : Coefs A) → 3 - k < r → s ≡ last_coef o ndu r k s
  unfolding last_coef
  last-left ndu r k s h = simp (lt-leb r (3 - k) h)

  pub order_of_lem : (ndu : List (List A)) (r k : ℕ) (s : Coefs A) {a b c : Coefs A}
      → a ≡ first_coef o ndu r k (cleared o s) → b ≡ mid_coefs o ndu r k a → c ≡ last_coef o ndu r k b → swapped o c ≡ order_of o ndu r k s
  unfolding order_of
  order_of_lem ndu r k s p q u = rw (u, q, p)

  -- the sum that the order before left plays no part
  pub sum-cleared : (ndu : List (List A)) (r k : ℕ) (old new : List A) (d e : A)
      → order_of o ndu r k (record { old = old; new = new; d = d }) ≡ order_of o ndu r k (record { old = old; new = new; d = e })
  unfolding order_of
  sum-cleared ndu r k old new d e = refl

  -- ---- the basis

  pub order_turn_lem : (ndu : List (List A)) (r k : ℕ) (s : Orders A) {c : Coefs A}
      → c ≡ order_of o ndu r k s.coefs → record { coefs = c; ders = put2 s.ders k r c.d } ≡ order_turn o ndu r k s
  unfolding order_turn
  order_turn_lem ndu r k s e = rw e

  -- a row is scaled by itself and put back into the table
  in_row : (d : List (List A)) (k j : ℕ) (f : A) (r : List A)
      → k < length d → put2 (set d k r) k j (o.times (at2 o (set d k r) k j) f) ≡ set d k (set r j (o.times (at1 o r j) f))
  in_row d k j f r h =
      let e : get_or (set d k r) k [] ≡ r = get_or-set_same d k r [] h in
      rw e (set-set d k r (set r j (o.times (at1 o r j) f)))

  in_rows : (n : ℕ) (d : List (List A)) (k : ℕ) (f : A)
      → k < length d
      → turns 0 n (λ j t. put2 t k j (o.times (at2 o t k j) f)) d ≡ set d k (turns 0 n (λ j r. set r j (o.times (at1 o r j) f)) (get_or d k []))
  unfolding turns
  in_rows zero d k f h = sym (set-get_or d k [])
  in_rows (suc n) d k f h = ap (λ t. put2 t k (0 + n) (o.times (at2 o t k (0 + n)) f)) (in_rows n d k f h) ∙ in_row d k (0 + n) f _ h

  row_scaled : (r : List A) (f : A) → length r ≡ 4 → turns 0 4 (λ j r. set r j (o.times (at1 o r j) f)) r ≡ map (λ x. o.times x f) r
  unfolding turns
  row_scaled [] f h = absurd (omega arith)
  row_scaled (a ∷ []) f h = absurd (omega arith)
  row_scaled (a ∷ b ∷ []) f h = absurd (omega arith)
  row_scaled (a ∷ b ∷ c ∷ []) f h = absurd (omega arith)
  row_scaled (a ∷ b ∷ c ∷ d ∷ []) f h = refl
  row_scaled (a ∷ b ∷ c ∷ d ∷ e ∷ l) f h = absurd (omega arith)

  -- past the end of a table there is no row of four
  row_there : (d : List (List A)) (k : ℕ) → length (get_or d k []) ≡ 4 → k < length d
  row_there [] k h = absurd (omega arith)
  row_there (r ∷ d) zero h = omega arith
  row_there (r ∷ d) (suc k) h = let l : k < length d = row_there d k h in omega arith

  pub scaled_row_lem : (k : ℕ) (f : Float) (d : List (List A)) {row : List A}
      → length (get_or d k []) ≡ 4 → row ≡ map (λ x. o.times x (o.cst f)) (get_or d k []) → set d k row ≡ scaled_row o k f d
  unfolding scaled_row
  scaled_row_lem k f d n e =
      let h : k < length d = row_there d k n in
      ap (set d k) (e ∙ sym (row_scaled (get_or d k []) (o.cst f) n))
      ∙ sym (in_rows 4 d k (o.cst f) h)

  pub scale_turn_lem : (k : ℕ) (s : Scaling A) {d : List (List A)}
      → d ≡ scaled_row o k s.factor s.ders → record { ders = d; factor = mul binary64 s.factor (of_int binary64 (pos (3 - k))) } ≡ scale_turn o k s
  unfolding scale_turn
  scale_turn_lem k s e = rw e

  module _ (u : List A) (i : ℕ) (t : A) (nd : ℕ) where
    -- order 0 is the values alone
    pub derivatives_none : {ndu v : List (List A)} → nd ≡ 0 → ndu ≡ triangle_of o u i t → v ≡ values_of o ndu → v ≡ derivatives_of o u i t nd
    unfolding derivatives_of scaled functions_of function_of turns
    derivatives_none z et ev = rw (ev, et, z)

    -- and of these the first row is not zeros
    pub none-but-values : {row : List A} → nd ≡ 0 → row ≡ get_or (derivatives_of o u i t 0) 0 []
        → (row ∷ four_zeros o ∷ four_zeros o ∷ four_zeros o ∷ four_zeros o ∷ []) ≡ derivatives_of o u i t nd
    unfolding values_of turns
    none-but-values {row} z e =
        let d : values_of o (triangle_of o u i t) ≡ derivatives_of o u i t nd = derivatives_none z refl refl in
        let first : row ≡ get_or (values_of o (triangle_of o u i t)) 0 [] =
        e ∙ ap (λ (m : ℕ). get_or (derivatives_of o u i t m) 0 []) (sym z) ∙ ap (λ (v : List (List A)). get_or v 0 []) (sym d) in
        ap (λ (r : List A). r ∷ four_zeros o ∷ four_zeros o ∷ four_zeros o ∷ four_zeros o ∷ []) first ∙ d

    pub derivatives_of_lem : {n : ℕ} {ndu v d q : List (List A)} → ndu ≡ triangle_of o u i t → v ≡ values_of o ndu → n ≡ min nd 3
        → d ≡ functions_of o ndu n v → q ≡ scaled o n d → q ≡ derivatives_of o u i t nd
    unfolding derivatives_of
    derivatives_of_lem et ev en ed eq = eq ∙ rw (ed, ev, et, en)

    pub basis_low : i < 3 → no_orders o ≡ basis_of o u i t nd
    unfolding basis_of
    basis_low h = simp (lt-leb 3 i h)

    pub basis_high : 3 ≤ i → 65 < i → no_orders o ≡ basis_of o u i t nd
    unfolding basis_of
    basis_high g h = simp (le-leb 3 i g, lt-leb i 65 h)

    pub basis_in : 3 ≤ i → i ≤ 65 → derivatives_of o u i t nd ≡ basis_of o u i t nd
    unfolding basis_of
    basis_in g h = simp (le-leb 3 i g, le-leb i 65 h)
