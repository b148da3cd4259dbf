-- `root::digits` meets its contract: `proofs/LastDigits.antt` has its steps, how large they are and what the last test decides.
-- Assumes nothing.
use native.Mathlib.Omega.{arith}
use Rattle.root.proofs.LastDigits.{Sized, sized, stays, goes_up}
use Rattle.root.proofs.digits.Goals as goal
use Rattle.root.proofs.digits.Goals.{After-floor_root-s}

-- what is known once the whole part of m's root is found
known : (c : After-floor_root-s) → Sized c.args.m c.floor_root-s.result
known c = sized _ _ c.requires.0 c.requires.1 c.floor_root-s.ensures

pub overflow_mul-a-2 : goal.overflow_mul-a-2
overflow_mul-a-2 c = omega (arith, known c)

pub nonzero_div-q : goal.nonzero_div-q
nonzero_div-q c = omega (arith, known c)

pub overflow_mul-r : goal.overflow_mul-r
overflow_mul-r c = omega (arith, known c)

pub overflow_add-r : goal.overflow_add-r
overflow_add-r c = omega (arith, known c)

pub overflow_mul-q : goal.overflow_mul-q
overflow_mul-q c = omega (arith, known c)

pub overflow_add-q : goal.overflow_add-q
overflow_add-q c = omega (arith, known c)

pub nonzero_rem-a : goal.nonzero_rem-a
nonzero_rem-a c = omega (arith, known c)

pub overflow_mul-a-3 : goal.overflow_mul-a-3
overflow_mul-a-3 c = omega (arith, known c)

pub overflow_add-result : goal.overflow_add-result
overflow_add-result c = omega (arith, known (goal.at.overflow_add-result c).After-floor_root-s)

pub returns-then-q-r : goal.returns-then-q-r
returns-then-q-r c = goes_up _ _ c.floor_root-s.ensures.0 (known (goal.at.returns-then-q-r c).After-floor_root-s) c.if-q-r.true

pub returns-else-q-r : goal.returns-else-q-r
returns-else-q-r c = stays _ _ c.floor_root-s.ensures.0 (known (goal.at.returns-else-q-r c).After-floor_root-s) c.if-q-r.false
