-- The three laws of a `while` loop: its invariant `Rest` holds where it begins, after each turn, and gives `rest` at its end.
-- They ask one thing of the loop, that its measure falls at each turn. Assumes nothing.
use mathlib.Core.Path.{◌≡◌, refl, sym, ap, ◌∙◌}
use mathlib.Core.Bool.{Bool, true, false}
use Prim.Native.Nat.{ℕ, zero, suc, ◌≤◌, ◌<◌}
use native.Mathlib.Nat.{le_refl}
use native.Mathlib.Omega.{arith}
use Rattle.meaning.specs.Loops.{spin, rest}

-- what is left to do from s gives what the whole loop gives from s₀
pub record Rest {S : Type 0} (go : S → Bool) (f : S → S) (μ : S → ℕ) (s₀ s : S) : Type 0 where
  pub same : rest go f μ s ≡ rest go f μ s₀

stops : {S : Type 0} (go : S → Bool) (f : S → S) (n : ℕ) (s : S) → go s ≡ false → spin go f n s ≡ s
unfolding spin
stops go f zero s e = refl
stops go f (suc n) s e = simp e

turns_on : {S : Type 0} (go : S → Bool) (f : S → S) (n : ℕ) (s : S) → go s ≡ true → spin go f (suc n) s ≡ spin go f n (f s)
unfolding spin
turns_on go f n s e = simp e

module _ {S : Type 0} (go : S → Bool) (f : S → S) (μ : S → ℕ) (falls : (s : S) → go s ≡ true → μ (f s) < μ s) where
  -- more turns than the measure says change nothing
  enough : (m n : ℕ) (s : S) → μ s ≤ m → μ s ≤ n → spin go f m s ≡ spin go f n s
  enough zero n s h k = by (go s) refl
    where
      by : (b : Bool) → go s ≡ b → spin go f zero s ≡ spin go f n s
      by true e = absurd (omega (arith, falls s e))
      by false e = stops go f zero s e ∙ sym (stops go f n s e)
  enough (suc m) zero s h k = by (go s) refl
    where
      by : (b : Bool) → go s ≡ b → spin go f (suc m) s ≡ spin go f zero s
      by true e = absurd (omega (arith, falls s e))
      by false e = stops go f (suc m) s e ∙ sym (stops go f zero s e)
  enough (suc m) (suc n) s h k = by (go s) refl (λ p q. enough m n (f s) p q)
    where
      by : (b : Bool) → go s ≡ b → (μ (f s) ≤ m → μ (f s) ≤ n → spin go f m (f s) ≡ spin go f n (f s)) → spin go f (suc m) s ≡ spin go f (suc n) s
      by true e r = turns_on go f m s e ∙ r (omega (arith, falls s e)) (omega (arith, falls s e)) ∙ sym (turns_on go f n s e)
      by false e r = stops go f (suc m) s e ∙ sym (stops go f (suc n) s e)

  pub begin : (s : S) → Rest go f μ s s
  begin s = record { same = refl }

  pub turn : {s₀ s t : S} → Rest go f μ s₀ s → go s ≡ true → t ≡ f s → Rest go f μ s₀ t
  turn {s₀} {s} r e p =
      record {
        same = ap (rest go f μ) p
            ∙ enough (μ (f s)) (μ s) (f s) (le_refl (μ (f s))) (omega (arith, falls s e))
            ∙ sym (turns_on go f (μ s) s e)
            ∙ enough (suc (μ s)) (μ s) s (omega arith) (le_refl (μ s))
            ∙ r.same;
      }

  pub end : {s₀ s : S} → Rest go f μ s₀ s → go s ≡ false → s ≡ rest go f μ s₀
  end {s₀} {s} r e = sym (stops go f (μ s) s e) ∙ r.same
