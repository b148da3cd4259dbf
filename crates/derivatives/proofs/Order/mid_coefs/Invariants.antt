-- `derivatives::Order::mid_coefs` meets its contract: each turn of the loop is `mid_turn`.
use Rattle.meaning.proofs.For.{At}
use Rattle.basis_columns.specs.Columns.{below, first_j, end_j}
use Rattle.basis.specs.Derivatives.{mid_turn}
use Rattle.derivatives.specs.View.{coefs}
use Rattle.derivatives.proofs.Order.mid_coefs.Given as goal

abbrev pub invariant-loop-j : goal.invariant-loop-j
invariant-loop-j g l =
    At (first_j (below l.self.r l.self.k)) (end_j l.self.r l.self.k) (mid_turn g.S.Scalar.ops l.ndu (below l.self.r l.self.k) l.self.k) (coefs l.old l.initial.new l.initial.sum) l.j (coefs l.old l.new l.sum)
