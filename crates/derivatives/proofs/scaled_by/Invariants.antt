-- `derivatives::scaled_by` meets its contract: each turn of the loop is `scale_turn`.
use Rattle.std.proofs.Common.{◌+◌}
use Rattle.meaning.proofs.For.{At}
use Rattle.basis.specs.Basis.{scale_turn}
use Rattle.derivatives.proofs.scaled_by.Given as goal

abbrev pub invariant-loop-k : goal.invariant-loop-k
invariant-loop-k g l = At 1 (l.n + 1) (scale_turn g.S.Scalar.ops) (record { ders = l.initial.ders; factor = l.initial.factor }) l.k (record { ders = l.ders; factor = l.factor })
