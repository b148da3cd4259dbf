-- `fit::build_fit` meets its contract.
use mathlib.Core.Path.{refl, sym, ◌∙◌}
use native.Mathlib.Nat.{suc-ne-zero}
use native.Mathlib.Omega.{arith}
use borrow.Author.Tests.{ltb-false}
use Rattle.meaning.proofs.Tests.{or_left}
use Rattle.refusal.proofs.Rows.{Passed, number_of, err_number, ok_number}
use Rattle.knots.specs.Given.{given, given_list}
use Rattle.knots.specs.declared.Form.TheVariants.{Fit}
use Rattle.shape.specs.Rules.{handle_rules}
use Rattle.curve.proofs.Builds.{handed_build, handles_refused, too_short_lem, long_enough}
use Rattle.fit.proofs.Asked.{fit_room, work-small, fit_refused, fit_left}
use Rattle.fit.proofs.build_fit.Goals as goal
use Rattle.fit.proofs.build_fit.Goals.{In_ok-check_handles}

-- past the first test
handles : (c : In_ok-check_handles) → let a = c.args in Passed (handle_rules Fit a.q.now (given a.knots) (given_list (λ k. k.now) a.knots))
handles c = number_of (sym c.check_handles.ensures) ∙ ok_number c.in_ok-check_handles.was

pub returns-in_err-check_handles : goal.returns-in_err-check_handles
returns-in_err-check_handles c =
    let was = c.in_err-check_handles.was in
    fit_refused _ _ _ _ _ (handed_build was _ c.from_residual.ensures) (handles_refused Fit _ _ _ _ c.check_handles.ensures (err_number was)) (err_number was)

pub overflow_mul-m : goal.overflow_mul-m
overflow_mul-m c =
    let a = c.args in
    omega (arith, work-small a.q.now (fit_room _ _ _ (handles (goal.at.overflow_mul-m c).In_ok-check_handles)).1)

pub returns-then-either : goal.returns-then-either
returns-then-either c =
    let short = sym c.either.ensures ∙ c.if-either.true in
    fit_refused _ _ _ _ _ refl
    (too_short_lem Fit _ _ _ _ c.check_handles.ensures (ok_number c.in_ok-check_handles.was) short) (suc-ne-zero 13)

pub interpolate-requires : goal.interpolate-requires
interpolate-requires c =
    let r = fit_room _ _ _ (handles (goal.at.interpolate-requires c).In_ok-check_handles) in
    (r.0, r.1, ltb-false _ _ (or_left _ _ (sym c.either.ensures ∙ c.if-either.false)))

pub returns : goal.returns
returns c =
    let long = sym c.either.ensures ∙ c.if-either.false in
    fit_left _ _ _ _ _ (long_enough Fit _ _ _ _ c.check_handles.ensures (ok_number c.in_ok-check_handles.was) long) c.interpolate.ensures
