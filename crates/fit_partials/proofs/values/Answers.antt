-- `fit_partials::values` meets its contract: a turn stores one value.
use Rattle.std.proofs.Common.{refl, arith}
use Rattle.meaning.proofs.Filling.{empty, filled, full}
use Rattle.fit_partials.proofs.values.Goals as goal

pub loop-j-init : goal.loop-j-init
loop-j-init c = empty refl

pub loop-j-preserved : goal.loop-j-preserved
loop-j-preserved c = filled c.loop-j.invariant (omega arith) refl

pub returns : goal.returns
returns c = full c.loop-j.invariant (omega arith)
