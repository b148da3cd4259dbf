-- `fit::stations::knots_by` meets its contract: a turn stores one knot.
use Rattle.std.proofs.Common.{arith, refl}
use Rattle.meaning.proofs.Filling.{empty, filled, full}
use Rattle.fit.proofs.stations.knots_by.Goals as goal

pub loop-j-init : goal.loop-j-init
loop-j-init g c = empty refl

pub loop-j-preserved : goal.loop-j-preserved
loop-j-preserved g c = filled c.loop-j.invariant c.loop-j-test.true c.knot_at.ensures

pub returns : goal.returns
returns g c = full c.loop-j.invariant (omega arith)
