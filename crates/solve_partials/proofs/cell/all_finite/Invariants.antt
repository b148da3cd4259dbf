-- `solve_partials::cell::all_finite` meets its contract: the flag is up where one of the numbers passed is not finite.
use mathlib.Core.Path.{◌≡◌}
use mathlib.Core.Bool.{not}
use lib.Ieee.Scale.{finite}
use Rattle.meaning.specs.Search.{every}
use Rattle.solve_partials.specs.Held.{numbered}
use Rattle.solve_partials.proofs.cell.all_finite.Given as goal

abbrev pub invariant-loop-x : goal.invariant-loop-x
invariant-loop-x l = l.spoilt ≡ not (every l.x-index (λ j. finite (numbered l.x-items j)))
