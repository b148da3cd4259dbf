-- `cells::get` meets its contract: a case for a cell that there is not, and one for a cell that there is.
use mathlib.Core.Path.{sym, ◌∙◌}
use borrow.Author.Tests.{not-true, not-false}
use Rattle.cells.specs.Cell.{read_at}
use Rattle.cells.proofs.Cells.{there}
use mathlib.Core.Path.{ap}
use mathlib.Core.Bool.{not}
use Rattle.cells.proofs.get.Goals as goal

pub returns-then-not-has_cell : goal.returns-then-not-has_cell
unfolding read_at
returns-then-not-has_cell c = rw (sym c.has_cell.ensures ∙ not-true _ (ap not c.if-not-has_cell.true)) c.cst.ensures

pub get_cell-requires : goal.get_cell-requires
get_cell-requires c =
    let t = there _ _ _ _ (sym c.has_cell.ensures ∙ not-false _ (ap not c.if-not-has_cell.false)) in
    (t.narrow, t.byte, t.room)

pub returns : goal.returns
unfolding read_at
returns c = rw (sym c.has_cell.ensures ∙ not-false _ (ap not c.if-not-has_cell.false)) c.get_cell.ensures
