-- `fit_partials::steps` meets its contract: a turn stores one step.
use Rattle.std.proofs.Common.{length}
use Rattle.meaning.proofs.Filling.{Filled}
use Rattle.partials.specs.Dual.{dual}
use Rattle.fit.specs.Parameters.{step_at}
use Rattle.fit_partials.specs.Variables.{variables_of}
use Rattle.fit_partials.proofs.steps.Given as goal

abbrev pub invariant-loop-k : goal.invariant-loop-k
invariant-loop-k l = Filled (step_at dual (variables_of l.q)) dual.off (length l.fn.out) l.k l.out
