-- `fit::stations::knots_by` meets its contract: a turn stores one knot.
use Rattle.std.proofs.Common.{length}
use Rattle.meaning.specs.Table.{at1}
use Rattle.meaning.proofs.Filling.{Filled}
use Rattle.fit.specs.Parameters.{knot_at}
use Rattle.fit.proofs.stations.knots_by.Given as goal

abbrev pub invariant-loop-j : goal.invariant-loop-j
invariant-loop-j g l =
    let o = g.S.Scalar.ops in
    Filled (knot_at o (at1 o l.parameters) (length l.parameters)) o.off (length l.fn.out) l.j l.out
