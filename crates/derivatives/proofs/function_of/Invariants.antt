-- `derivatives::function_of` meets its contract: each turn of the loop is `order_turn`, with the sum that the turn before left.
use Rattle.std.proofs.Common.{◌+◌}
use Rattle.meaning.proofs.For.{At}
use Rattle.basis.specs.Derivatives.{start_coefs}
use Rattle.basis.specs.Basis.{order_turn}
use Rattle.derivatives.specs.View.{coefs}
use Rattle.derivatives.proofs.function_of.Given as goal

abbrev pub invariant-loop-k : goal.invariant-loop-k
invariant-loop-k g l =
    let o = g.S.Scalar.ops in
    (d : g.row.S.Denot) × At 1 (l.n + 1) (order_turn o l.ndu l.r) (record { coefs = start_coefs o; ders = l.initial.ders }) l.k (record { coefs = coefs l.old l.new d; ders = l.ders })
