-- `sheet_text::take_numbers` meets its contract: a turn puts in one number.
use mathlib.Core.Path.{refl}
use native.Mathlib.Omega.{arith}
use Rattle.meaning.proofs.Filling.{empty, filled, full}
use Rattle.sheet_read.specs.Grammar.{numbers_at}
use Rattle.sheet_text.proofs.take_numbers.Goals as goal

pub loop-j-init : goal.loop-j-init
loop-j-init c = empty refl

pub loop-j-preserved : goal.loop-j-preserved
loop-j-preserved c = filled c.loop-j.invariant (omega arith) c.double.ensures

pub returns : goal.returns
unfolding numbers_at
returns c = full c.loop-j.invariant (omega arith)
