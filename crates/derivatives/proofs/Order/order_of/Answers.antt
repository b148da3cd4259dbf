-- `derivatives::Order::order_of` meets its contract.
use Rattle.basis.proofs.Laws.{order_of_lem}
use Rattle.derivatives.proofs.Order.order_of.Goals as goal

pub returns : goal.returns
returns g c =
    let first = rw c.cst.ensures at c.first_coef-first.ensures in
    rw (c.swap.ensures.x_after, c.swap.ensures.y_after) (order_of_lem g.S.Scalar.ops _ _ _ _ first c.mid_coefs-mid.ensures c.last_coef-last.ensures)
