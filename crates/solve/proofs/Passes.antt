-- A loop that takes rows step by step, and joins a flag with each step's verdict: its invariant, and what it leaves. Over any scalar, for any store of
-- rows. Assumes nothing.
use mathlib.Core.Path.{◌≡◌, refl}
use mathlib.Core.Bool.{Bool, true, ◌&&◌}
use mathlib.Core.List.{List}
use Prim.Native.Nat.{ℕ, ◌+◌, ◌≤◌, ◌<◌, zero-le}
use native.Mathlib.Omega.{arith}
use Rattle.meaning.specs.Loops.{turns}
use Rattle.meaning.specs.Search.{every}
use Rattle.meaning.proofs.Every.{every-none, every_next}
use Rattle.solve.specs.Left.{Becomes}
use Rattle.solve.proofs.Lists.{turns_next}

module _ {A : Type 0} (m : ℕ) (step : ℕ → List (List A) → List (List A)) (ok : ℕ → List (List A) → Bool) where
  -- M is what the first k steps make of the rows N, and fine is the verdict on those
  pub record Pass (N : List (List A)) (k : ℕ) (M : List (List A)) (fine : Bool) : Type 0 where
    pub rows : M ≡ turns 0 k step N
    pub verdict : fine ≡ every k (λ i. ok i (turns 0 i step N))
    pub few : k ≤ m

module _ {A : Type 0} {m : ℕ} {step : ℕ → List (List A) → List (List A)} {ok : ℕ → List (List A) → Bool} {N : List (List A)} where
  pub begun : Pass m step ok N 0 N true
  unfolding turns
  begun = record { rows = refl; verdict = every-none (λ i. ok i (turns 0 i step N)); few = zero-le }

  module _ {k : ℕ} {M : List (List A)} {fine : Bool} (a : Pass m step ok N k M fine) where
    -- step k makes L of them
    pub further : k < m → {L : List (List A)} {test both : Bool} → Becomes (step k) (ok k) M L test → both ≡ (fine && test) → Pass m step ok N (k + 1) L both
    further h does f =
        record {
          rows = rw (turns_next step k N, ← a.rows) does.0;
          verdict = every_next (λ i. ok i (turns 0 i step N)) k a.verdict (rw (← a.rows) does.1) f;
          few = omega arith;
        }

    pub over : m ≤ k → Becomes (turns 0 m step) (λ N. every m (λ i. ok i (turns 0 i step N))) N M fine
    over h = let e : k ≡ m = omega (arith, a.few) in rw (← e) (a.rows, a.verdict)
