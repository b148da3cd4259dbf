-- `derivatives::scaled_row` meets its contract: the loop multiplies one number in each turn.
use Rattle.std.proofs.Common.{◌≡◌, ◌++◌, take, drop}
use Rattle.std.specs.Prelude.{map}
use Rattle.derivatives.proofs.scaled_row.Given as goal

abbrev pub invariant-loop-x : goal.invariant-loop-x
invariant-loop-x g l = l.row ≡ map (λ x. g.S.Scalar.ops.times x l.by) (take l.x-index l.initial.row) ++ drop l.x-index l.initial.row
