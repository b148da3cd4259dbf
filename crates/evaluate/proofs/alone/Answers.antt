-- `evaluate::alone` meets its contract.
use mathlib.Core.Path.{refl}
use Rattle.meaning.specs.Loops.{turns}
use Rattle.evaluate.specs.Point.{placed}
use Rattle.evaluate.proofs.alone.Goals as goal

pub returns : goal.returns
unfolding placed turns
returns c = refl
