-- `closest::closest_many` meets its contract: the rules of the call in their order, then each point.
use mathlib.Core.Path.{refl, sym, ap, ◌∙◌}
use Rattle.refusal.specs.Refusals.{verdict}
use Rattle.refusal.proofs.Rows.{ok_passed}
use Rattle.offer.proofs.Handed.{rules_refused, is_refused}
use Rattle.closest.proofs.Past.{accepted_as}
use Rattle.closest.proofs.Each.{odd_points, curve_refused, room_refused, room_for, asked_of, all_found}
use Rattle.closest.proofs.closest_many.Goals as goal

pub returns-then-points-ne0 : goal.returns-then-points-ne0
returns-then-points-ne0 g c =
    let a = c.args in
    odd_points (g.C.Offer.offered a.curve.now) (g.met.C.Offer.sound a.curve.now).counted a.points.now a.out.now a.refusals.now c.if-points-ne0.true refl

pub returns-in_err-check : goal.returns-in_err-check
returns-in_err-check g c =
    let a = c.args in
    let was = c.in_err-check.was in
    let told = c.from_residual.ensures in
    curve_refused (g.C.Offer.offered a.curve.now) (g.met.C.Offer.sound a.curve.now).counted a.points.now a.out.now a.refusals.now c.if-points-ne0.false
    (rules_refused was _ told _ c.check.ensures.rules) (is_refused was _ told)

pub returns-in_err-room : goal.returns-in_err-room
returns-in_err-room g c =
    let a = c.args in
    let was = c.in_err-room.was in
    let told = c.from_residual-in_err-room.ensures in
    room_refused (g.C.Offer.offered a.curve.now) (g.met.C.Offer.sound a.curve.now).counted a.points.now a.out.now a.refusals.now c.if-points-ne0.false
    (ok_passed _ c.check.ensures.rules c.in_ok-check.was) (rules_refused was _ told _ c.room.ensures) (is_refused was _ told)

pub search_each-requires : goal.search_each-requires
search_each-requires g c =
    let a = c.args in
    let sound = g.met.C.Offer.sound a.curve.now in
    let passed = ok_passed _ c.check.ensures.rules c.in_ok-check.was in
    let room = sym (ap verdict c.in_ok-room.was) ∙ c.room.ensures in record {
      fact_1 = accepted_as (c.spline.ensures ∙ c.rooms.ensures) (sound.knots passed);
      fact_2 = room_for (g.C.Offer.offered a.curve.now) sound.counted a.points.now a.out.now a.refusals.now c.if-points-ne0.false passed room refl;
    }

pub returns : goal.returns
returns g c =
    let a = c.args in
    let sound = g.met.C.Offer.sound a.curve.now in
    let passed = ok_passed _ c.check.ensures.rules c.in_ok-check.was in
    let room = sym (ap verdict c.in_ok-room.was) ∙ c.room.ensures in
    all_found (g.C.Offer.offered a.curve.now) sound.counted a.points.now a.out.now a.refusals.now c.if-points-ne0.false passed room refl
    (asked_of a.points.now (c.spline.ensures ∙ c.rooms.ensures) c.search_each.ensures)
