-- `points::evaluate_many` meets its contract: the rules of the curve, those of the call, then each parameter; the promises follow from it.
use mathlib.Core.Path.{refl, sym, ap, ◌∙◌}
use lib.ListN.{length}
use Rattle.refusal.specs.Refusals.{verdict}
use Rattle.refusal.proofs.Rows.{ok_passed}
use Rattle.hull.proofs.Given.{with_parameter}
use Rattle.offer.proofs.Handed.{rules_refused, is_refused}
use Rattle.points.proofs.Answers.{call_fits, points_refused, call_refused, points-answered, refused_points, points_promised}
use Rattle.points.proofs.evaluate_many.Goals as goal

pub returns-in_err-check : goal.returns-in_err-check
returns-in_err-check g c =
    let a = c.args in
    let who = g.C.Offer.offered a.curve.now in
    let was = c.in_err-check.was in
    let refused = is_refused was _ c.from_residual.ensures in
    refused_points who a.ts.now a.order a.out.now a.refusals.now refused
    (points_refused who a.ts.now a.order a.out.now a.refusals.now (rules_refused was _ c.from_residual.ensures _ c.check.ensures.rules) refused)

pub returns-in_err-check_call : goal.returns-in_err-check_call
returns-in_err-check_call g c =
    let a = c.args in
    let who = g.C.Offer.offered a.curve.now in
    let was = c.in_err-check_call.was in
    let told = c.from_residual-in_err-check_call.ensures in
    let refused = is_refused was _ told in
    refused_points who a.ts.now a.order a.out.now a.refusals.now refused
    (call_refused who a.ts.now a.order a.out.now a.refusals.now (g.met.C.Offer.sound a.curve.now)
    (ok_passed _ c.check.ensures.rules c.in_ok-check.was) (rules_refused was _ told _ c.check_call.ensures) refused)

pub answer_each-requires-clause-passed : goal.answer_each-requires-clause-passed
answer_each-requires-clause-passed g c = ok_passed _ c.check.ensures.rules c.in_ok-check.was

pub answer_each-requires-clause-fits : goal.answer_each-requires-clause-fits
answer_each-requires-clause-fits g c =
    let a = c.args in
    call_fits (length a.ts.now) a.order a.out.now a.refusals.now (ok_passed _ c.check_call.ensures c.in_ok-check_call.was)

pub returns : goal.returns
returns g c =
    let a = c.args in
    let who = g.C.Offer.offered a.curve.now in
    let sound = g.met.C.Offer.sound a.curve.now in
    let passed = ok_passed _ c.check.ensures.rules c.in_ok-check.was in
    let call = sym (ap verdict c.in_ok-check_call.was) ∙ c.check_call.ensures in
    points_promised who a.ts.now a.order a.out.now a.refusals.now sound
    (points-answered who a.ts.now a.order a.out.now a.refusals.now sound passed call refl c.answer_each.ensures)
    (λ j h. with_parameter (c.check.ensures.doubles passed) (c.type_inv.ts j))
