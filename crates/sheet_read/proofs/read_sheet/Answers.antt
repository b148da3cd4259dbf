-- `sheet_read::read_sheet` meets its contract: section after section, each where the one before ends.
use Rattle.sheet_read.proofs.Standing.{parts_are, points_reach, knots_reach}
use Rattle.sheet_read.proofs.read_sheet.Goals as goal

pub read_section-knots-requires-clause-fact_2 : goal.read_section-knots-requires-clause-fact_2
read_section-knots-requires-clause-fact_2 c = rw c.end_of.ensures (points_reach _ _ _ (rw c.first_line.ensures at c.read_section-points.ensures))

pub read_section-parameters-requires-clause-fact_2 : goal.read_section-parameters-requires-clause-fact_2
read_section-parameters-requires-clause-fact_2 c =
    rw c.end_of-2.ensures
    (knots_reach _ _ _ _ (rw c.first_line.ensures at c.read_section-points.ensures) (rw c.end_of.ensures at c.read_section-knots.ensures))

pub returns-clause-sheet : goal.returns-clause-sheet
returns-clause-sheet c =
    parts_are _ c.read_form-form.ensures _ _ _ (rw (c.first_line.ensures, c.said.ensures) at c.read_section-points.ensures)
    (rw c.end_of.ensures at c.read_section-knots.ensures) (rw c.end_of-2.ensures at c.read_section-parameters.ensures)
