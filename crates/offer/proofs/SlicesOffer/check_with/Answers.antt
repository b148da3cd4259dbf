-- The rules of slices with 11 for a point behind them; the numbers of slices are doubles by their types.
use mathlib.Core.Path.{sym, ap, ◌∙◌}
use Rattle.refusal.specs.Refusals.{verdict}
use Rattle.refusal.proofs.Rows.{handed_on, err_number, ok_number}
use Rattle.offer.proofs.InSlices.{slices_doubles}
use Rattle.offer.proofs.With.{handles_refused, wild_refused, tame_passes}
use Rattle.offer.proofs.SlicesOffer.check_with.Goals as goal

pub returns-in_err-check_handles-clause-rules : goal.returns-in_err-check_handles-clause-rules
returns-in_err-check_handles-clause-rules c =
    let was = c.in_err-check_handles.was in
    handed_on was _ c.from_residual.ensures ∙ handles_refused _ _ _ c.check_handles.ensures (err_number was)

pub returns-in_err-check_handles-clause-doubles : goal.returns-in_err-check_handles-clause-doubles
returns-in_err-check_handles-clause-doubles c = λ p. slices_doubles _ _ p c.are_doubles.ensures c.are_doubles-2.ensures

pub returns-then-wild-clause-rules : goal.returns-then-wild-clause-rules
returns-then-wild-clause-rules c = wild_refused _ _ _ c.check_handles.ensures (ok_number c.in_ok-check_handles.was) c.if-wild.true

pub returns-then-wild-clause-doubles : goal.returns-then-wild-clause-doubles
returns-then-wild-clause-doubles c = λ p. slices_doubles _ _ p c.are_doubles.ensures c.are_doubles-2.ensures

pub returns-clause-rules : goal.returns-clause-rules
returns-clause-rules c =
    sym (ap verdict c.in_ok-check_handles.was) ∙ tame_passes _ _ _ c.check_handles.ensures (ok_number c.in_ok-check_handles.was) c.if-wild.false

pub returns-clause-doubles : goal.returns-clause-doubles
returns-clause-doubles c = λ p. slices_doubles _ _ p c.are_doubles.ensures c.are_doubles-2.ensures
