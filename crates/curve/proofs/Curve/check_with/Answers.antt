-- `Curve::check_with` meets its contract: the rules of the shape, then the point, then the length.
use mathlib.Core.Path.{◌≡◌, sym, ap, ◌∙◌}
use mathlib.Core.Bool.{Bool}
use Rattle.refusal.specs.Refusals.{first_of, verdict}
use Rattle.refusal.proofs.Rows.{handed_on, err_number, ok_number}
use Rattle.shape.specs.Rules.{shape_rules}
use Rattle.curve.specs.Record.{is_sum, length_in, shape_in}
use Rattle.curve.proofs.Recheck.{shape_refused, point_refused, length_refused, length-kept}
use Rattle.curve.proofs.Curve.check_with.Goals as goal
use Rattle.curve.proofs.Curve.check_with.Goals.{After-check, After-is_sum}

known : (c : After-check) → let k = c.args.self.now in verdict c.check.result ≡ first_of (shape_rules k.knot_count (shape_in k))
known c = c.check.ensures ∙ ap (λ s. first_of (shape_rules c.args.self.now.knot_count s)) c.spline.ensures

judged : (c : After-is_sum) {t : Bool} → c.is_sum.result ≡ t → let k = c.args.self.now in is_sum k.length (length_in (shape_in k)) ≡ t
judged c e = sym (c.is_sum.ensures ∙ ap (is_sum c.args.self.now.length) c.length.ensures) ∙ e

pub returns-in_err-check : goal.returns-in_err-check
returns-in_err-check c =
    let was = c.in_err-check.was in
    handed_on was _ c.from_residual.ensures
    ∙ shape_refused _ _ c.args.self.now.length c.args.wild (known (goal.at.returns-in_err-check c).After-check) (err_number was)

pub returns-then-wild : goal.returns-then-wild
returns-then-wild c =
    point_refused _ _ c.args.self.now.length c.args.wild (known (goal.at.returns-then-wild c).After-check) (ok_number c.in_ok-check.was) c.if-wild.true

pub returns-then-not-is_sum : goal.returns-then-not-is_sum
returns-then-not-is_sum c =
    let at = goal.at.returns-then-not-is_sum c in
    length_refused _ _ _ c.args.wild (known at.After-check) (ok_number c.in_ok-check.was) c.if-wild.false (judged at.After-is_sum c.if-not-is_sum.true)

pub returns : goal.returns
returns c =
    let at = goal.at.returns c in
    sym (ap verdict c.in_ok-check.was)
    ∙ length-kept _ _ _ c.args.wild (known at.After-check) (ok_number c.in_ok-check.was) c.if-wild.false (judged at.After-is_sum c.if-not-is_sum.false)
