-- `row_order::exchange` meets its contract: a case for two rows that the order has, and one for each that it has not.
use mathlib.Core.Path.{sym, refl, ◌∙◌}
use native.Mathlib.Omega.{arith}
use borrow.Author.Tests.{le-ltb, lt-ltb}
use Rattle.std.proofs.lemmas.List.Edits.{swap_is}
use Rattle.row_order.specs.Order.{exchanged_in}
use Rattle.row_order.proofs.exchange.Goals as goal
use Rattle.row_order.proofs.exchange.Goals.{else-i-lt66-via-then-i-lt66+else-j-lt66, else-i-lt66-via-else-i-lt66}

pub returns-then-j-lt66 : goal.returns-then-j-lt66
unfolding exchanged_in
returns-then-j-lt66 c =
    let a = c.args in
    rw (lt-ltb a.i 66 c.if-i-lt66.true, lt-ltb a.j 66 c.if-j-lt66.true)
    (c.swap.ensures.after ∙ sym (swap_is a.order.now a.i a.j 0 (omega arith) (omega arith)))

pub returns-else-i-lt66 : goal.returns-else-i-lt66
unfolding exchanged_in
returns-else-i-lt66 c =
    let a = c.args in
    elim c.else-i-lt66.branch [
      | else-i-lt66-via-then-i-lt66+else-j-lt66 w ↦ rw (lt-ltb a.i 66 w.if-i-lt66.true, le-ltb a.j 66 w.if-j-lt66.false) refl
      | else-i-lt66-via-else-i-lt66 w ↦ rw (le-ltb a.i 66 w.if-i-lt66.false) refl
    ]
