-- `knots::check` meets its contract: the rows on the handles, then the row on knots with fit points, then the list's.
use mathlib.Core.Path.{◌∙◌, ap}
use mathlib.Core.Bool.{false}
use mathlib.Core.List.{[]}
use Rattle.refusal.proofs.Rows.{handed_on, err_number, ok_number}
use Rattle.knots.specs.Given.{given}
use Rattle.knots.proofs.Refused.{check_refused, check_fit, check_room}
use Rattle.knots.proofs.check.Goals as goal

pub returns-in_err-check_handles : goal.returns-in_err-check_handles
returns-in_err-check_handles c =
    let was = c.in_err-check_handles.was in
    handed_on was _ c.from_residual.ensures ∙ check_refused _ _ _ _ c.check_handles.ensures (err_number was)

pub check_list-requires : goal.check_list-requires
check_list-requires c = check_room _ _ false [] c.check_handles.ensures (ok_number c.in_ok-check_handles.was) c.in-Control-Some.is-0

pub returns-in-Fit-Some : goal.returns-in-Fit-Some
returns-in-Fit-Some c = check_fit _ _ _ _ c.check_handles.ensures (ok_number c.in_ok-check_handles.was) (ap given c.in-Fit-Some.is-1) c.in-Fit-Some.is-0
