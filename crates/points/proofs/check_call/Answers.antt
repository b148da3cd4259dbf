-- `points::check_call` meets its contract: the order, then the room.
use mathlib.Core.Path.{sym, ◌∙◌}
use borrow.Author.Tests.{lt-ltb, le-ltb}
use Rattle.refusal.proofs.Rows.{row-applies, row-passes}
use Rattle.points.proofs.check_call.Goals as goal

pub returns-then-order-gt4 : goal.returns-then-order-gt4
returns-then-order-gt4 c = sym (row-applies _ _ (lt-ltb _ _ c.if-order-gt4.true))

pub returns : goal.returns
returns c = c.room.ensures ∙ sym (row-passes _ _ (le-ltb _ _ c.if-order-gt4.false))
