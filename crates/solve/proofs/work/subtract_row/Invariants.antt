-- `solve::work::subtract_row` meets its contract: the numbers below k are subtracted, and the flag is up where one of them is not finite.
use Prim.Native.Nat.{◌≤◌}
use mathlib.Core.Path.{◌≡◌}
use mathlib.Core.Bool.{not}
use lib.ListN.{length}
use Rattle.meaning.specs.Scalar.{plain}
use Rattle.meaning.specs.Search.{every}
use Rattle.solve.specs.Elimination.{subtracted}
use Rattle.solve.specs.Verdicts.{fine_at}
use Rattle.solve.proofs.Lists.{blend}
use Rattle.solve.proofs.work.subtract_row.Given as goal

abbrev pub invariant-loop-k : goal.invariant-loop-k
invariant-loop-k l =
    (l.t ≡ blend l.k (subtracted plain l.n l.col l.f l.p l.initial.t) l.initial.t) × (l.spoilt ≡ not (every l.k (fine_at plain l.n l.col l.f l.p l.initial.t)))
    × (l.col ≤ l.k) × (l.k ≤ length l.initial.t) × (length l.t ≡ length l.initial.t)
