-- `row_order::RowOrder::new` meets its contract: the rows begin as an order.
use mathlib.Core.Path.{sym, subst}
use native.Mathlib.Omega.{arith}
use Rattle.row_order.specs.Order.{Order}
use Rattle.row_order.proofs.Orders.{in_order_lem}
use Rattle.row_order.proofs.RowOrder.new.Goals as goal

pub invariant_of-result : goal.invariant_of-result
invariant_of-result c =
    record {
      permutes = subst (Order c.min.result) (sym c.in_order-places.ensures) (in_order_lem c.min.result (omega arith));
    }
