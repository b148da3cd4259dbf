-- `fit::stations::parameters` meets its contract: the running sum is the sum of the steps before, as long as there are steps.
use Rattle.std.proofs.Common.{◌≡◌, ◌+◌, ◌-◌, ◌≤◌, length}
use Rattle.meaning.specs.Table.{at1}
use Rattle.meaning.proofs.Filling.{Filled}
use Rattle.fit.specs.Parameters.{sum_of, parameter_at}
use Rattle.fit.proofs.stations.parameters.Given as goal

abbrev pub invariant-loop-k : goal.invariant-loop-k
invariant-loop-k g l =
    let o = g.S.Scalar.ops in
    (l.k ≤ length l.steps → l.sum ≡ sum_of o (at1 o l.steps) (l.k - 1))
    × Filled (parameter_at o (at1 o l.steps) (length l.steps + 1)) o.off (length l.fn.out) l.k l.out
