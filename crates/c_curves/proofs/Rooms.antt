-- The room that a slice fills begins as the slice does. Assumes nothing.
use mathlib.Core.Path.{◌≡◌, ap, ◌∙◌}
use mathlib.Core.List.{List}
use Prim.Native.Nat.{ℕ, ◌≤◌, min}
use native.Mathlib.Nat.{min-le_left, min-le_right, le-min}
use native.Mathlib.Omega.{arith}
use lib.ListN.{length, take, replicate, length-replicate}
use lib.Ieee.{Float}
use Rattle.meaning.specs.Scalar.{zero64}
use Rattle.outcome.proofs.Doors.{put_all, put_first}
use Rattle.c_curves.specs.Curves.{room_of}

pub room_front : (k n : ℕ) (s : List Float) → n ≤ k → n ≤ length s → take n (room_of k s) ≡ take n s
unfolding room_of
room_front k n s h g =
    let m : ℕ = min (length s) k in
    let low = min-le_left (length s) k in
    let room : m ≤ length (replicate k zero64) = omega (arith, length-replicate k zero64, min-le_right (length s) k) in
    ap (take n) (put_all s m (replicate k zero64) low room) ∙ put_first n m (replicate k zero64) s (le-min g h) low
