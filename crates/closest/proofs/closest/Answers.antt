-- `closest::closest` meets its contract: the rules of the curve with the point's among them, then the answer.
use mathlib.Core.Path.{◌∙◌}
use lib.Ieee.{Float}
use Rattle.refusal.proofs.Rows.{Passed, ok_passed}
use Rattle.outcome.specs.Outcome.{either_wild}
use Rattle.outcome.proofs.Doors.{tells, refused_told}
use Rattle.plane.specs.Vector.{Vector}
use Rattle.shape.proofs.With.{with_passed}
use Rattle.offer.proofs.Handed.{rules_refused, is_refused, err_told}
use Rattle.closest.specs.Search.{closest_answer}
use Rattle.closest.proofs.Past.{search_past, checked_as, accepted_as, searched_as}
use Rattle.closest.proofs.closest.Goals as goal
use Rattle.closest.proofs.closest.Given.{Over}
use Rattle.closest.proofs.closest.Goals.{In_ok-check_with}

pub returns-in_err-check_with : goal.returns-in_err-check_with
unfolding closest_answer
returns-in_err-check_with g c =
    let was = c.in_err-check_with.was in
    let told = c.from_residual.ensures in
    let known = checked_as (g.C.Offer.offered c.args.curve.now).rules c.check_with.ensures.rules c.either_wild.ensures in
    err_told _ told.0 ∙ tells (refused_told _ _ (rules_refused was _ told _ known) (is_refused was _ told))

-- past the check
passed : (g : Over) (c : In_ok-check_with g) → Passed (g.C.Offer.offered c.args.curve.now).rules
passed g c =
    let who = g.C.Offer.offered c.args.curve.now in
    let known = checked_as who.rules c.check_with.ensures.rules c.either_wild.ensures in
    (with_passed (either_wild c.args.px c.args.py) who.rules (g.met.C.Offer.sound c.args.curve.now).counted (ok_passed _ known c.in_ok-check_with.was)).1

pub invariant_of-search : goal.invariant_of-search
invariant_of-search g c = record {
  accepted =
      accepted_as (c.spline.ensures ∙ c.rooms-rooms.ensures)
      ((g.met.C.Offer.sound c.args.curve.now).knots (passed g (goal.at.invariant_of-search g c).In_ok-check_with));
}

pub returns : goal.returns
returns g c =
    let a = c.args in
    let who = g.C.Offer.offered a.curve.now in
    let p : Vector Float = record { x = a.px; y = a.py } in
    c.answer.ensures
    ∙ searched_as (c.spline.ensures ∙ c.rooms-rooms.ensures) p
    ∙ search_past who (g.met.C.Offer.sound a.curve.now).counted (passed g (goal.at.returns g c).In_ok-check_with) p
