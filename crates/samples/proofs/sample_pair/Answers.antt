-- `samples::sample_pair` meets its contract: a turn puts in one sample.
use mathlib.Core.Path.{refl}
use Rattle.meaning.proofs.Filling.{empty, filled, full}
use Rattle.samples.proofs.sample_pair.Goals as goal

pub loop-s-init : goal.loop-s-init
loop-s-init c = empty refl

pub loop-s-preserved : goal.loop-s-preserved
loop-s-preserved c = filled c.loop-s.invariant c.loop-s-test.true c.sample_at.ensures

pub returns : goal.returns
returns c = full c.loop-s.invariant c.loop-s-test.false
