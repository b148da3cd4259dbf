-- `solve_partials::cell::less_nothing` meets its contract: from the numbers passed +0.0 is taken off.
use mathlib.Core.Path.{◌≡◌}
use lib.ListN.{length}
use lib.Ieee.{binary64, nan, sub}
use Rattle.meaning.specs.Scalar.{zero64}
use Rattle.solve_partials.specs.Sweep.{Swept}
use Rattle.solve_partials.specs.Held.{numbered}
use Rattle.solve_partials.proofs.cell.less_nothing.Given as goal

abbrev pub invariant-loop-x : goal.invariant-loop-x
invariant-loop-x l =
    Swept (λ j. sub binary64 (numbered l.initial.x-items j) zero64) nan 0 l.x-index l.initial.x-items l.x-items
    × (l.x-index-end ≡ length l.initial.x-items)
