-- `shape::check_handles` meets its contract.
use mathlib.Core.Path.{sym, ap, ◌∙◌}
use Rattle.refusal.specs.Refusals.{verdict}
use Rattle.meaning.proofs.Searching.{told-some, told_none}
use Rattle.refusal.proofs.Rows.{handed_on, err_number, ok_number}
use Rattle.shape.proofs.Handles.{odd_handles, knots_refused, wild_handles, tame_handles}
use Rattle.shape.proofs.check_handles.Goals as goal

pub returns-then-coords-ne0 : goal.returns-then-coords-ne0
returns-then-coords-ne0 c = odd_handles _ _ _ _ c.if-coords-ne0.true

pub returns-in_err-check : goal.returns-in_err-check
returns-in_err-check c =
    let was = c.in_err-check.was in
    handed_on was _ c.from_residual.ensures ∙ knots_refused _ _ _ _ c.if-coords-ne0.false c.check.ensures (err_number was)

pub returns-then-first_wild-coords : goal.returns-then-first_wild-coords
returns-then-first_wild-coords c =
    wild_handles _ _ _ _ c.if-coords-ne0.false c.check.ensures (ok_number c.in_ok-check.was) (told-some _ 0 _ c.first_wild.ensures c.if-first_wild-coords.true)

pub returns : goal.returns
returns c =
    sym (ap verdict c.in_ok-check.was)
    ∙ tame_handles _ _ _ _ c.if-coords-ne0.false c.check.ensures (ok_number c.in_ok-check.was) (told_none _ 0 _ c.first_wild.ensures c.if-first_wild-coords.false)
