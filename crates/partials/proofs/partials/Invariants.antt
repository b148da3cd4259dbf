-- `partials::partials` meets its contract: the places passed are made by f, whatever computes what it does.
use mathlib.Core.Path.{◌≡◌}
use Prim.Native.Nat.{ℕ}
use lib.Ieee.{Float, nan}
use Rattle.meaning.proofs.Filling.{Filled}
use Rattle.partials.proofs.partials.Given as goal

abbrev pub invariant-loop-k : goal.invariant-loop-k
invariant-loop-k g l =
    ((h : ℕ → Float) → ((k : ℕ) (x : Float) → goal.F-post g l.f k x → x ≡ h k) → Filled h nan l.n l.k l.front) × (l.k-end ≡ l.n)
