-- `fit_partials::blank` meets its contract: a turn clears one cell.
use Prim.Native.Nat.{◌≤◌}
use Rattle.meaning.specs.Scalar.{zero64}
use Rattle.partials.specs.Dual.{cst_dv}
use Rattle.fit_partials.specs.Stored.{Laid}
use Rattle.fit_partials.proofs.blank.Given as goal

abbrev pub invariant-loop-k : goal.invariant-loop-k
invariant-loop-k l = Laid l.c l.at l.k (λ j. cst_dv zero64) l.initial.w l.initial.ns l.w l.ns × (l.k ≤ l.n)
