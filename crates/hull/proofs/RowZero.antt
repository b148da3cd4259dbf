-- Row 0 of the basis, whatever orders are asked for beside it, is the four weights of `Weights`, and the sum of `weighted` the point of `Sums`.
-- Assumes nothing.
use mathlib.Core.Path.{◌≡◌, refl, sym, ap, ◌∙◌}
use mathlib.Core.List.{List, [], ◌∷◌}
use Prim.Native.Nat.{ℕ, zero, suc, ◌+◌, ◌-◌, ◌≤◌, min}
use native.Mathlib.Omega.{arith}
use lib.ListN.{get_or}
use lib.Seq.{get_or-set_other}
use lib.Ieee.{Float, of_bits}
use Rattle.meaning.specs.Scalar.{Ops, plain}
use Rattle.meaning.specs.Loops.{turns}
use Rattle.meaning.specs.Table.{at1, put2}
use Rattle.basis.specs.Triangle.{column_turn, column_of, sides_turn, triangle_of}
use Rattle.basis.specs.Derivatives.{order_of}
use Rattle.basis.specs.Basis.{values_of, order_turn, function_of, functions_of, scaled_row, scale_turn, scaled, derivatives_of, basis_of}
use Rattle.basis.proofs.Laws.{basis_in}
use Rattle.evaluate.specs.Point.{weighted}
use Rattle.hull.proofs.Steps.{temp, to-right, to-left}
use Rattle.hull.proofs.Around.{w0, w1, w2, w3, coordinate}

-- what each turn leaves as it is, the loop leaves
kept : {S B : Type 0} (p : S → B) (f : ℕ → S → S) (lo : ℕ) → ((k : ℕ) (s : S) → lo ≤ k → p (f k s) ≡ p s) → (n : ℕ) (s : S) → p (turns lo n f s) ≡ p s
unfolding turns
kept p f lo h zero s = refl
kept p f lo h (suc n) s = h (lo + n) (turns lo n f s) (omega arith) ∙ kept p f lo h n s

abbrev row0 : {A : Type 0} → List (List A) → List A
row0 d = get_or d 0 []

put_kept : {A : Type 0} (d : List (List A)) (k j : ℕ) (v : A) → 1 ≤ k → row0 (put2 d k j v) ≡ row0 d
put_kept d k j v h = get_or-set_other d k 0 _ [] (λ e. omega arith)

-- ---- the rows above do not touch it

module _ {A : Type 0} (o : Ops A) where
  function_kept : (ndu : List (List A)) (n r : ℕ) (d : List (List A)) → row0 (function_of o ndu n r d) ≡ row0 d
  unfolding function_of order_turn
  function_kept ndu n r d = kept (λ s. row0 s.ders) (order_turn o ndu r) 1 (λ k s h. put_kept s.ders k r (order_of o ndu r k s.coefs).d h)
      (n + 1 - 1) _

  functions_kept : (ndu : List (List A)) (n : ℕ) (d : List (List A)) → row0 (functions_of o ndu n d) ≡ row0 d
  unfolding functions_of
  functions_kept ndu n d = kept row0 (function_of o ndu n) 0 (λ r e h. function_kept ndu n r e) 4 d

  row_kept : (k : ℕ) (f : Float) (d : List (List A)) → 1 ≤ k → row0 (scaled_row o k f d) ≡ row0 d
  unfolding scaled_row
  row_kept k f d h = kept row0 _ 0 (λ j e l. put_kept e k j _ h) 4 d

  scaled-kept : (n : ℕ) (d : List (List A)) → row0 (scaled o n d) ≡ row0 d
  unfolding scaled scale_turn
  scaled-kept n d = kept (λ s. row0 s.ders) (scale_turn o) 1 (λ k s h. row_kept k _ _ h) (n + 1 - 1) _

  derivatives_kept : (u : List A) (i : ℕ) (t : A) (nd : ℕ) → row0 (derivatives_of o u i t nd) ≡ row0 (values_of o (triangle_of o u i t))
  unfolding derivatives_of
  derivatives_kept u i t nd = scaled-kept (min nd 3) _ ∙ functions_kept _ (min nd 3) _

-- ---- and it is the weights of the six knots from i - 2 to i + 3

module _ (u : List Float) (i : ℕ) (t : Float) where
  abbrev weighed : {A : Type 0} → (Float → Float → Float → Float → Float → Float → Float → A) → A
  weighed f = f (at1 plain u (i + 1 - 3)) (at1 plain u (i + 1 - 2)) (at1 plain u (i + 1 - 1)) t (at1 plain u (i + 1)) (at1 plain u (i + 2))
      (at1 plain u (i + 3))

  values_are : row0 (values_of plain (triangle_of plain u i t)) ≡ weighed w0 ∷ weighed w1 ∷ weighed w2 ∷ weighed w3 ∷ []
  unfolding values_of triangle_of sides_turn column_of column_turn turns temp to-right to-left of_bits
  values_are = refl

  module _ (cs : List Float) where
    abbrev summed : Float
    summed = weighed coordinate (at1 plain cs (i - 3 + 0)) (at1 plain cs (i - 3 + 1)) (at1 plain cs (i - 3 + 2)) (at1 plain cs (i - 3 + 3))

    sum_is : weighted plain cs i (weighed w0 ∷ weighed w1 ∷ weighed w2 ∷ weighed w3 ∷ []) ≡ summed
    unfolding weighted turns of_bits
    sum_is = refl

    pub coordinate_is : (nd : ℕ) → 3 ≤ i → i ≤ 65 → weighted plain cs i (row0 (basis_of plain u i t nd)) ≡ summed
    coordinate_is nd g h =
        ap (λ d. weighted plain cs i (row0 d)) (sym (basis_in plain u i t nd g h))
        ∙ ap (weighted plain cs i) (derivatives_kept plain u i t nd ∙ values_are)
        ∙ sum_is
