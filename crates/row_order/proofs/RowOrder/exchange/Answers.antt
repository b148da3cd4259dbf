-- `row_order::RowOrder::exchange` meets its contract: two rows exchanged are an order again.
use mathlib.Core.Path.{sym, subst}
use Rattle.row_order.specs.Order.{Order}
use Rattle.row_order.proofs.Orders.{exchanged_order}
use Rattle.row_order.proofs.RowOrder.exchange.Goals as goal

pub invariant_of-self : goal.invariant_of-self
invariant_of-self c =
    let a = c.args in
    record {
      permutes = subst (Order a.self.now.rows) (sym c.exchange.ensures) (exchanged_order a.self.now.permutes a.i a.j c.if-i-self.true c.if-j-self.true);
    }
