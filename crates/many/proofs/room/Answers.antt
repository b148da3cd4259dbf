-- `many::room` meets its contract.
use mathlib.Core.Path.{sym}
use native.Mathlib.Omega.{arith}
use Rattle.many.proofs.Rooms.{no_refusals, no_places, no_width, room_for_all}
use Rattle.many.proofs.room.Goals as goal
use Rattle.many.proofs.room.Goals.{else-w-gt0-via-then-w-gt0+else-out-w, else-w-gt0-via-else-w-gt0}

pub returns-then-refusals-count : goal.returns-then-refusals-count
returns-then-refusals-count c = sym (no_refusals _ _ _ _ c.if-refusals-count.true)

pub returns-then-out-w : goal.returns-then-out-w
returns-then-out-w c = sym (no_places _ _ _ _ c.if-w-gt0.true c.if-out-w.true)

pub returns : goal.returns
returns c =
    elim c.else-w-gt0.branch [
      | else-w-gt0-via-then-w-gt0+else-out-w w ↦ sym (room_for_all _ _ _ _ w.if-w-gt0.true w.if-out-w.false c.if-refusals-count.false)
      | else-w-gt0-via-else-w-gt0 w ↦ sym (no_width _ _ _ _ (omega (arith, w.if-w-gt0.false)) c.if-refusals-count.false)
    ]
