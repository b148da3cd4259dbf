-- `control::build_control` meets its contract: the rules of the handles, that no slice is short, then what is stored.
use mathlib.Core.Path.{ap, ◌∙◌}
use mathlib.Core.Bool.{not}
use native.Mathlib.Nat.{suc-ne-zero}
use lib.Dec.{ltb}
use Rattle.refusal.proofs.Rows.{err_number, ok_number}
use Rattle.knots.specs.declared.Form.TheVariants.{Control}
use Rattle.outcome.specs.Outcome.{some_wild}
use Rattle.rooms.specs.declared.Rooms.{Rooms}
use Rattle.curve.specs.Record.{curve_over}
use Rattle.curve.specs.Making.{measuring}
use Rattle.curve.proofs.Builds.{handed_build, built_refused, handles_refused, too_short_lem, long_enough, room_refused, build_left}
use Rattle.control.proofs.build_control.Goals as goal

pub returns-in_err-check_handles : goal.returns-in_err-check_handles
returns-in_err-check_handles c =
    let was = c.in_err-check_handles.was in
    handed_build was _ c.from_residual.ensures
    ∙ built_refused _ _ (room_refused Control _ _ _ _ _ (handles_refused Control _ _ _ _ c.check_handles.ensures (err_number was)) (err_number was)) (err_number was)

pub returns-then-short : goal.returns-then-short
returns-then-short c =
    built_refused _ _ (room_refused Control _ _ _ _ _ (too_short_lem Control _ _ _ _ c.check_handles.ensures (ok_number c.in_ok-check_handles.was) c.if-short.true) (suc-ne-zero 13))
    (suc-ne-zero 13)

pub returns : goal.returns
returns c =
    let rooms = c.in_rooms-rooms.result in
    build_left Control _ _ _ _ _ _ (long_enough Control _ _ _ _ c.check_handles.ensures (ok_number c.in_ok-check_handles.was) c.if-short.false)
    (c.measured.ensures
    ∙ (λ i. measuring (not (ltb (c.first_wild-wild.ensures i) 70)) (curve_over rooms.points rooms.knots rooms.xs rooms.ys))
    ∙ ap (λ (k : Rooms). measuring (not (some_wild k.knots 70)) (curve_over k.points k.knots k.xs k.ys)) c.in_rooms-rooms.ensures)
