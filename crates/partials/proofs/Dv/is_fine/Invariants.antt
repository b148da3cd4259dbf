-- `partials::Dv::is_fine` meets its contract: the flag falls at a partial that is not finite, and stays down.
use mathlib.Core.Bool.{◌&&◌}
use lib.ListN.{get_or}
use lib.Ieee.{nan}
use lib.Ieee.Scale.{finite}
use Rattle.meaning.proofs.For.{At}
use Rattle.partials.proofs.Dv.is_fine.Given as goal

abbrev pub invariant-loop-x : goal.invariant-loop-x
invariant-loop-x l = At 0 l.x-index-end (λ i b. b && finite (get_or l.fn.self.g i nan)) l.initial.fine l.x-index l.fine
