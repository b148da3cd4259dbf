-- An array that a function of the index fills. Assumes nothing.
use mathlib.Core.Path.{◌≡◌, refl, sym, ap, ◌∙◌, subst}
use mathlib.Core.Logic.{inl, inr}
use mathlib.Core.List.{List}
use Prim.Native.Nat.{ℕ, zero, suc, ◌+◌, ◌≤◌, ◌<◌}
use native.Mathlib.Nat.{eq-or-lt_of_le}
use native.Mathlib.Omega.{arith}
use denote.Param.Members.{Mut}
use lib.ListN.{get_or}
use lib.Seq.{ext_get_or}
use Rattle.std.specs.Array.{IsFromFnResult, IsFromFnResultFrom}
use Rattle.std.specs.Fn.{Called}
use Rattle.meaning.specs.Search.{listed}
use Rattle.meaning.proofs.Filling.{length-listed, nth_listed}

module _ {F B : Type 0} (g : Mut F (ℕ × Unit {0}) B) (h : ℕ → B) (f : F) (k : (i : ℕ) (y : B) (q : F) → Called g f (i, tt) y q → (q ≡ f) × (y ≡ h i)) where
  each_is : (n i : ℕ) (p : F) (ys : List B) → p ≡ f → IsFromFnResultFrom g p ys i n → (j : ℕ) (d : B) → i ≤ j → j < i + n → get_or ys j d ≡ h j
  each_is zero i p ys e a j d l m = absurd (omega arith)
  each_is (suc n) i p ys e a j d l m =
      let t = k i a.1 a.0 (subst (λ (w : F). Called g w (i, tt) a.1 a.0) e a.3) in
      elim (eq-or-lt_of_le l) [
        | inl q ↦ ap (λ (x : ℕ). get_or ys x d) (sym q) ∙ a.2.1 d ∙ t.1 ∙ ap h q
        | inr r ↦ each_is n (i + 1) a.0 ys t.0 a.4 j d (omega arith) (omega arith)
      ]

  pub made_listed : (n : ℕ) (ys : List B) → IsFromFnResult g f ys n → (d : B) → ys ≡ listed 0 n h
  made_listed n ys a d =
      ext_get_or d ys (listed 0 n h) (a.long ∙ sym (length-listed 0 n h))
      (λ i l. each_is n 0 f ys refl a.each i d (omega arith) (omega (arith, a.long)) ∙ sym (nth_listed n i h d (omega (arith, a.long))))
