-- The three laws of a `for` loop: its invariant `At` holds where it begins, after each turn, and gives `run` at its end. Assumes nothing.
use mathlib.Core.Path.{◌≡◌, ap, ◌∙◌}
use Prim.Native.Nat.{ℕ, suc, ◌+◌, ◌-◌, ◌≤◌, ◌<◌}
use native.Mathlib.Nat.{sub_self, le_refl}
use native.Mathlib.Omega.{arith}
use Rattle.meaning.specs.Loops.{turns, run}

-- s is the state before turn k of the loop from s₀. A record, so that a law finds the loop's body and first state in it.
pub record At {S : Type 0} (lo hi : ℕ) (f : ℕ → S → S) (s₀ : S) (k : ℕ) (s : S) : Type 0 where
  pub low : lo ≤ k
  pub high : k ≤ hi
  pub is : s ≡ turns lo (k - lo) f s₀

module _ {S : Type 0} {lo hi : ℕ} {f : ℕ → S → S} {s₀ : S} where
  pub first : lo ≤ hi → At lo hi f s₀ lo s₀
  unfolding turns
  first h = record { low = le_refl lo; high = h; is = rw sub_self }

  pub next : {k : ℕ} {s t : S} → At lo hi f s₀ k s → k < hi → t ≡ f k s → At lo hi f s₀ (k + 1) t
  unfolding turns
  next {k} {s} a h q =
      let more : k + 1 - lo ≡ suc (k - lo) = omega arith in
      let here : lo + (k - lo) ≡ k = omega arith in
      record { low = omega arith; high = omega arith; is = q ∙ ap (f k) a.is ∙ rw (more, here) }

  pub last : {k : ℕ} {s : S} → At lo hi f s₀ k s → hi ≤ k → s ≡ run lo hi f s₀
  last {k} {s} a h = let e : k ≡ hi = omega arith in rw e at a.is
