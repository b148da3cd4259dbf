-- What `threshdune_record_move` writes, kept as a record over the same knots, every function that takes one accepts. Assumes nothing.
use mathlib.Core.Path.{◌≡◌}
use mathlib.Core.List.{List}
use Prim.Native.Nat.{ℕ}
use lib.Ieee.{Float}
use Rattle.refusal.proofs.Rows.{Passed}
use Rattle.moving.specs.Moving.{moved_out, moved_into}
use Rattle.moving.proofs.Into.{into_room, into_accepted}
use Rattle.c_curves.specs.Curves.{read_curve, as_record}
use Rattle.c_curves.proofs.Rooms.{room_front}
use Rattle.refusal.specs.Refusals.{Verdict}

module _ (n k : ℕ) (l : Float) (xs ys ks : List Float) (i : ℕ) (x y : Float) (ps qs : List Float) (m : Float) where
  pub record_move_accepted : {r : Verdict} {ps' qs' : List Float} {m' : Float} → moved_out r ps' qs' m' ≡ moved_into (read_curve n k l xs ys ks) i x y ps qs m
      → r.number ≡ 0 → Passed (as_record n k m' ps' qs' ks).rules
  unfolding read_curve
  record_move_accepted {ps' = ps'} {qs' = qs'} e z =
      let c = read_curve n k l xs ys ks in
      let room = into_room c i x y ps qs m e z in
      into_accepted c i x y ps qs m e z _ _ (room_front 66 n ps' room.0 room.1) (room_front 66 n qs' room.0 room.2)
