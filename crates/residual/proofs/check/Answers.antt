-- `residual::check` meets its contract.
use mathlib.Core.Path.{sym, ap, ◌∙◌}
use mathlib.Core.Bool.{not}
use Rattle.refusal.specs.Refusals.{verdict}
use Rattle.refusal.proofs.Rows.{handed_on, err_number, ok_number}
use Rattle.outcome.proofs.Doors.{not_told}
use Rattle.residual.proofs.Rules.{odd, many, refused, wild_x, wild_y, wild_t, all_pass}
use Rattle.residual.proofs.check.Goals as goal
use Rattle.residual.proofs.check.Goals.{then-not-is_finite-via-then-not-is_finite, then-not-is_finite-via-else-not-is_finite+then-not-is_finite-2}

pub returns-then-q-ne0 : goal.returns-then-q-ne0
returns-then-q-ne0 c = odd _ _ _ _ _ _ _ c.if-q-ne0.true

pub returns-then-q-gt12 : goal.returns-then-q-gt12
returns-then-q-gt12 c = many _ _ _ _ _ _ _ c.if-q-ne0.false c.if-q-gt12.true

pub returns-in_err-check_handles : goal.returns-in_err-check_handles
returns-in_err-check_handles c =
    let was = c.in_err-check_handles.was in
    handed_on was _ c.from_residual.ensures
    ∙ refused _ _ _ _ _ _ _ c.if-q-ne0.false c.if-q-gt12.false c.check_handles.ensures (err_number was)

pub returns-then-not-is_finite : goal.returns-then-not-is_finite
returns-then-not-is_finite c =
    elim c.then-not-is_finite.branch [
      | then-not-is_finite-via-then-not-is_finite w ↦
          wild_x _ _ _ _ _ _ _ c.if-q-ne0.false c.if-q-gt12.false c.check_handles.ensures (ok_number c.in_ok-check_handles.was)
          (not_told c.is_finite.ensures (ap not w.if-not-is_finite.true))
      | then-not-is_finite-via-else-not-is_finite+then-not-is_finite-2 w ↦
          wild_y _ _ _ _ _ _ _ c.if-q-ne0.false c.if-q-gt12.false c.check_handles.ensures (ok_number c.in_ok-check_handles.was)
          (not_told c.is_finite.ensures (ap not w.if-not-is_finite.false))
          (not_told w.is_finite-else-not-is_finite.ensures (ap not w.if-not-is_finite-2.true))
    ]

pub returns-then-not-is_finite-3 : goal.returns-then-not-is_finite-3
returns-then-not-is_finite-3 c =
    wild_t _ _ _ _ _ _ _ c.if-q-ne0.false c.if-q-gt12.false c.check_handles.ensures (ok_number c.in_ok-check_handles.was)
    (not_told c.is_finite.ensures (ap not c.if-not-is_finite.false)) (not_told c.is_finite-else-not-is_finite.ensures (ap not c.if-not-is_finite-2.false))
    (not_told c.is_finite-2.ensures (ap not c.if-not-is_finite-3.true))

pub returns : goal.returns
returns c =
    sym (ap verdict c.in_ok-check_handles.was)
    ∙ all_pass _ _ _ _ _ _ _ c.if-q-ne0.false c.if-q-gt12.false c.check_handles.ensures (ok_number c.in_ok-check_handles.was)
    (not_told c.is_finite.ensures (ap not c.if-not-is_finite.false)) (not_told c.is_finite-else-not-is_finite.ensures (ap not c.if-not-is_finite-2.false))
    (not_told c.is_finite-2.ensures (ap not c.if-not-is_finite-3.false))
