-- `fit::steps` meets its contract: a turn stores one step.
use Rattle.std.proofs.Common.{length}
use Rattle.std.specs.Float.{nan}
use Rattle.meaning.specs.Scalar.{plain}
use Rattle.meaning.proofs.Filling.{Filled}
use Rattle.fit.specs.Parameters.{step_at}
use Rattle.fit.proofs.steps.Given as goal

abbrev pub invariant-loop-k : goal.invariant-loop-k
invariant-loop-k l = Filled (step_at plain l.q) nan (length l.fn.out) l.k l.out
