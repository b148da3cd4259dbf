-- `fit::steps` meets its contract: a turn stores one step.
use Rattle.std.proofs.Common.{refl, arith}
use Rattle.meaning.proofs.Filling.{empty, filled, full}
use Rattle.meaning.specs.Scalar.{plain}
use Rattle.fit.proofs.Sums.{step_made}
use Rattle.fit.proofs.steps.Goals as goal

pub loop-k-init : goal.loop-k-init
loop-k-init c = empty refl

pub loop-k-preserved : goal.loop-k-preserved
loop-k-preserved c =
    filled c.loop-k.invariant c.loop-k-test.true (step_made plain c.args.q.now c.loop-k.k c.point.ensures c.point-in-loop-k.ensures c.step.ensures)

pub returns : goal.returns
returns c = full c.loop-k.invariant (omega arith)
