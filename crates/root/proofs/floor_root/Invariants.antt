-- `root::floor_root` meets its contract. The first loop keeps s so small that its square fits, and ends with a square that is at most m. The
-- second keeps that, and ends where the next square is above m. Assumes nothing.
use Prim.Native.Nat.{◌≤◌, ◌<◌, ◌-◌, ◌*◌, ◌^◌}
use Rattle.root.proofs.floor_root.Given as goal

abbrev pub invariant-loop-s : goal.invariant-loop-s
invariant-loop-s l = l.s < 2 ^ 28

abbrev pub decreases-loop-s : goal.decreases-loop-s
decreases-loop-s l = l.s

abbrev pub invariant-loop-s-2 : goal.invariant-loop-s-2
invariant-loop-s-2 l = l.s * l.s ≤ l.m

abbrev pub decreases-loop-s-2 : goal.decreases-loop-s-2
decreases-loop-s-2 l = l.m - l.s
