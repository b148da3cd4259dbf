-- `c_curves::fill` meets its contract.
use mathlib.Core.Path.{◌≡◌}
use Prim.Native.Nat.{min}
use native.Mathlib.Nat.{min-eq_left, min-eq_right}
use native.Mathlib.Omega.{arith}
use lib.ListN.{length}
use Rattle.c_curves.proofs.fill.Goals as goal

pub returns-then-s-room : goal.returns-then-s-room
returns-then-s-room c =
    let a = c.args in
    let e : min (length a.s.now) (length a.room.now) ≡ length a.s.now = min-eq_left (omega arith) in
    rw e c.put.ensures

pub returns : goal.returns
returns c =
    let a = c.args in
    let e : min (length a.s.now) (length a.room.now) ≡ length a.room.now = min-eq_right (omega arith) in
    rw e c.put-2.ensures
