-- `moving::move_with` meets its contract: the tests in their order, then the moved curve.
use mathlib.Core.Path.{◌≡◌, refl, sym, ap, ◌∙◌}
use mathlib.Core.Bool.{Bool}
use native.Mathlib.Omega.{arith}
use lib.Ieee.Scale.{finite}
use Rattle.refusal.specs.Refusals.{first_of, verdict}
use Rattle.refusal.proofs.Rows.{number_of, err_number, ok_number}
use Rattle.outcome.specs.Outcome.{either_wild}
use Rattle.shape.specs.Offered.{with11}
use Rattle.shape.proofs.With.{with_passed}
use Rattle.curve.specs.declared.Curve.{Curve}
use Rattle.curve.specs.Record.{by_record}
use Rattle.curve.proofs.Recheck.{record_sound}
use Rattle.curve.proofs.Builds.{handed_build, made}
use Rattle.moving.specs.Moving.{moved}
use Rattle.moving.proofs.Steps.{checks, by_record_lem, by_index, by_room, by_new_length, is_moved}
use Rattle.moving.proofs.move_with.Goals as goal
use Rattle.moving.proofs.move_with.Goals.{After-check_with, After-is_finite}

-- what the check tells
known : (k : After-check_with) → let a = k.args in verdict k.check_with.result ≡ first_of (checks a.c.now a.x a.y)
known k =
    k.check_with.ensures
    ∙ ap (λ (w : Bool). first_of (with11 w (by_record k.args.c.now).rules)) k.either_wild.ensures

pub returns-in_err-check_with : goal.returns-in_err-check_with
returns-in_err-check_with c =
    let a = c.args in
    let was = c.in_err-check_with.was in
    by_record_lem a.c.now a.index a.x a.y a.short (known (goal.at.returns-in_err-check_with c).After-check_with) (err_number was)
    (handed_build was _ c.from_residual.ensures)

pub returns-then-index-c : goal.returns-then-index-c
returns-then-index-c c =
    let a = c.args in
    by_index a.c.now a.index a.x a.y a.short (known (goal.at.returns-then-index-c c).After-check_with) (ok_number c.in_ok-check_with.was) c.if-index-c.true refl

pub returns-then-short : goal.returns-then-short
returns-then-short c =
    let a = c.args in
    by_room a.c.now a.index a.x a.y a.short (known (goal.at.returns-then-short c).After-check_with) (ok_number c.in_ok-check_with.was) (omega arith)
    c.if-short.true refl

pub with_point-curve-requires : goal.with_point-curve-requires
with_point-curve-requires c =
    let a = c.args in
    let told = known (goal.at.with_point-curve-requires c).After-check_with in
    let passed = (with_passed (either_wild a.x a.y) _ (record_sound a.c.now).counted (number_of (sym told) ∙ ok_number c.in_ok-check_with.was)).1 in
    let few = ((record_sound a.c.now).knots passed).room in
    omega arith

-- the new length's verdict
new : (c : After-is_finite) {t : Bool} → c.is_finite.result ≡ t
    → let a = c.args in finite (moved a.c.now a.index a.x a.y).length ≡ t
new c e = sym (c.is_finite.ensures ∙ ap (λ (d : Curve). finite d.length) c.with_point-curve.ensures) ∙ e

pub returns-then-not-is_finite : goal.returns-then-not-is_finite
returns-then-not-is_finite c =
    let a = c.args in
    let at = goal.at.returns-then-not-is_finite c in
    by_new_length a.c.now a.index a.x a.y a.short (known at.After-check_with) (ok_number c.in_ok-check_with.was) (omega arith) c.if-short.false
    (new at.After-is_finite c.if-not-is_finite.true) refl

pub returns : goal.returns
returns c =
    let a = c.args in
    let at = goal.at.returns c in
    ap (λ v. made v c.with_point-curve.result) (sym (ap verdict c.in_ok-check_with.was))
    ∙ is_moved a.c.now a.index a.x a.y a.short (known at.After-check_with) (ok_number c.in_ok-check_with.was) (omega arith) c.if-short.false
    (new at.After-is_finite c.if-not-is_finite.false) c.with_point-curve.ensures
