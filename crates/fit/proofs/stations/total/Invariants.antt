-- `fit::stations::total` meets its contract: the sum so far is that of the steps before.
use Rattle.std.proofs.Common.{◌≡◌}
use Rattle.meaning.specs.Table.{at1}
use Rattle.fit.specs.Parameters.{sum_of}
use Rattle.fit.proofs.stations.total.Given as goal

abbrev pub invariant-loop-step : goal.invariant-loop-step
invariant-loop-step g l = let o = g.S.Scalar.ops in l.sum ≡ sum_of o (at1 o l.steps) l.step-index
