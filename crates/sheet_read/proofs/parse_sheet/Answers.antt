-- `sheet_read::parse_sheet` meets its contract: section after section, each where the one before ends.
use Rattle.std.proofs.Common.{arith}
use Rattle.sheet_read.proofs.Reading.{no_form, no_points, no_knots, no_parameters, all_read, points_end, knots_end}
use Rattle.sheet_read.proofs.parse_sheet.Goals as goal

pub returns-in_err-form : goal.returns-in_err-form
returns-in_err-form c = rw c.from_residual.ensures (no_form _ c.in_err-form.ensures)

pub returns-in_err-points : goal.returns-in_err-points
returns-in_err-points c =
    rw c.from_residual-in_err-points.ensures (no_points _ c.in_ok-form.ensures (rw c.first_line.ensures at c.in_err-points.ensures))

pub read_section-requires-2-clause-fact_2 : goal.read_section-requires-2-clause-fact_2
read_section-requires-2-clause-fact_2 c = omega (arith, points_end _ _ (rw c.first_line.ensures at c.in_ok-points.ensures))

pub returns-in_err-knots : goal.returns-in_err-knots
returns-in_err-knots c =
    rw c.from_residual-in_err-knots.ensures (no_knots _ c.in_ok-form.ensures (rw c.first_line.ensures at c.in_ok-points.ensures) c.in_err-knots.ensures)

pub read_section-requires-3-clause-fact_2 : goal.read_section-requires-3-clause-fact_2
read_section-requires-3-clause-fact_2 c =
    omega (arith, knots_end _ _ (points_end _ _ (rw c.first_line.ensures at c.in_ok-points.ensures)) c.in_ok-knots.ensures)

pub returns-in_err-parameters : goal.returns-in_err-parameters
returns-in_err-parameters c =
    rw c.from_residual-in_err-parameters.ensures
    (no_parameters _ c.in_ok-form.ensures (rw c.first_line.ensures at c.in_ok-points.ensures) c.in_ok-knots.ensures c.in_err-parameters.ensures)

pub returns : goal.returns
returns c =
    rw c.then_some.ensures
    (all_read _ c.in_ok-form.ensures (rw c.first_line.ensures at c.in_ok-points.ensures) c.in_ok-knots.ensures c.in_ok-parameters.ensures)
