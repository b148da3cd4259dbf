-- `root::floor_root` meets its contract. The first loop keeps s so small that its square fits, and ends with a square that is at most m. The
-- second keeps that, and ends where the next square is above m. Assumes nothing.
use Prim.Native.Nat.{◌-◌, ◌^◌}
use native.Mathlib.Nat.{le_of_lt}
use native.Mathlib.Omega.{arith}
use Rattle.root.proofs.Squares.{le_sq, sq_mono, sq_pos}
use Rattle.root.proofs.floor_root.Goals as goal

pub loop-s-init : goal.loop-s-init
loop-s-init c = omega arith

pub overflow_mul-s : goal.overflow_mul-s
overflow_mul-s c = omega (arith, sq_mono c.loop-s.s (2 ^ 28) (le_of_lt c.loop-s.invariant))

pub overflow_sub-s : goal.overflow_sub-s
overflow_sub-s c = sq_pos _ _ c.loop-s-test.true

pub loop-s-smaller : goal.loop-s-smaller
loop-s-smaller c = omega (arith, sq_pos _ _ c.loop-s-test.true)

pub loop-s-preserved : goal.loop-s-preserved
loop-s-preserved c = omega arith

pub loop-s-2-init : goal.loop-s-2-init
loop-s-2-init c = omega arith

pub overflow_mul-s-in-loop-s-2 : goal.overflow_mul-s-in-loop-s-2
overflow_mul-s-in-loop-s-2 c = omega (arith, le_sq c.loop-s-2.s)

pub overflow_mul-s-in-loop-s-2-2 : goal.overflow_mul-s-in-loop-s-2-2
overflow_mul-s-in-loop-s-2-2 c = omega arith

pub overflow_sub-m : goal.overflow_sub-m
overflow_sub-m c = omega arith

pub overflow_add-s : goal.overflow_add-s
overflow_add-s c = omega (arith, le_sq c.loop-s-2.s)

pub loop-s-2-smaller : goal.loop-s-2-smaller
loop-s-2-smaller c = omega arith

pub loop-s-2-preserved : goal.loop-s-2-preserved
loop-s-2-preserved c = omega arith

pub returns : goal.returns
returns c = omega arith
