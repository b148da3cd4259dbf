-- `root::parts` meets its contract: `proofs/Scaling.antt` has what each branch answers, and that the shift drops no digit. Assumes nothing.
use mathlib.Core.Path.{sym, subst}
use Prim.Native.Nat.{ℕ, ◌-◌}
use native.Mathlib.Omega.{arith}
use lib.Count.{count_leading_zeros}
use Rattle.root.proofs.Scaling.{Scales, Raised, raised, normal}
use Rattle.root.proofs.parts.Goals as goal
use Rattle.root.proofs.parts.Goals.{Then-b-lt4503599627370496}

known : (c : Then-b-lt4503599627370496) → Raised c.args.b (count_leading_zeros 64 c.args.b)
known c = raised _ c.requires.0 c.if-b-lt4503599627370496.true

pub overflow_cast-z : goal.overflow_cast-z
overflow_cast-z c = omega (arith, known c)

pub overflow_sub-result : goal.overflow_sub-result
overflow_sub-result c = omega (arith, known c)

pub overflow_shl-result : goal.overflow_shl-result
overflow_shl-result c = omega (arith, known c)

pub overflow_sub-result-then-b-lt4503599627370496 : goal.overflow_sub-result-then-b-lt4503599627370496
overflow_sub-result-then-b-lt4503599627370496 c = omega (arith, known c)

pub returns-then-b-lt4503599627370496 : goal.returns-then-b-lt4503599627370496
returns-then-b-lt4503599627370496 c =
    let l = known c in
    subst (λ (m : ℕ). Scales c.args.b m (1033 - count_leading_zeros 64 c.args.b)) (sym l.exact) l.scales

pub returns-else-b-lt4503599627370496 : goal.returns-else-b-lt4503599627370496
returns-else-b-lt4503599627370496 c = normal _ c.if-b-lt4503599627370496.false c.requires.1
