-- `cells::put` meets its contract: a case for a cell that there is, and one for a cell that there is not.
use mathlib.Core.Path.{refl, sym, ◌∙◌}
use Rattle.cells.specs.Cell.{doubles_with, counts_with}
use Rattle.cells.proofs.Cells.{there}
use Rattle.cells.proofs.put.Goals as goal

pub put_cell-requires : goal.put_cell-requires
put_cell-requires c =
    let t = there _ _ _ _ (sym c.has_cell.ensures ∙ c.if-has_cell.true) in
    (t.narrow, t.byte, t.room)

pub returns-then-has_cell : goal.returns-then-has_cell
unfolding doubles_with counts_with
returns-then-has_cell c =
    let yes = sym c.has_cell.ensures ∙ c.if-has_cell.true in
    record {
      fact_1 = rw yes c.put_cell.ensures.0;
      fact_2 = rw yes c.put_cell.ensures.1;
    }

pub returns-else-has_cell : goal.returns-else-has_cell
unfolding doubles_with counts_with
returns-else-has_cell c =
    let no = sym c.has_cell.ensures ∙ c.if-has_cell.false in
    record {
      fact_1 = rw no refl;
      fact_2 = rw no refl;
    }
