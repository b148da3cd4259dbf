-- Slices that are read past their end, and slices that numbers were put into. Assumes nothing.
use mathlib.Core.Path.{◌≡◌, refl, sym, ap}
use mathlib.Core.List.{List, [], ◌∷◌, ◌++◌}
use Prim.Native.Nat.{ℕ, ◌+◌, ◌≤◌, ◌<◌}
use native.Mathlib.Nat.{le_of_suc-le-suc, not-suc-le-zero, add_assoc}
use native.Mathlib.Numerals.{add-one}
use native.Mathlib.Omega.{arith}
use lib.ListN.{length, set, take, drop}
use lib.Seq.{paste, append_snoc, take-suc-set, drop-set-lt}

module _ {A : Type 0} where
  -- a number, and those after it, are put in one after the other
  pub head_and_rest : (out : List A) (at : ℕ) (v : A) (g : List A) → at + 28 ≤ length out → paste (set out at v) (at + 1) g 27 ≡ paste out at (v ∷ g) 28
  head_and_rest out at v g h =
      let here : at < length out = omega arith in
      let after : at + 1 + 27 ≡ at + 28 = add_assoc at 1 27 in
      rw (add-one at)
      (rw (take-suc-set out at v here, sym (add-one at), after, drop-set-lt (at + 28) out at v (omega arith)) (ap (λ (l : List A). l ++ drop (at + 28) out) (append_snoc (take at out) v (take 27 g))))

  pub one_put : (out : List A) (x : A) → 1 ≤ length out → set out 0 x ≡ paste out 0 (x ∷ []) 1
  one_put [] x h = absurd (not-suc-le-zero h)
  one_put (a ∷ out) x h = refl

  pub two_put : (out : List A) (x y : A) → 2 ≤ length out → set (set out 0 x) 1 y ≡ paste out 0 (x ∷ y ∷ []) 2
  two_put [] x y h = absurd (not-suc-le-zero h)
  two_put (a ∷ []) x y h = absurd (not-suc-le-zero (le_of_suc-le-suc h))
  two_put (a ∷ b ∷ out) x y h = refl
