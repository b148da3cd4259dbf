-- `distance::leading` meets its contract.
use native.Mathlib.Omega.{arith}
use lib.Count.{leading_top}
use Rattle.distance.proofs.Powers.{small_leading, large_leading}
use Rattle.distance.proofs.leading.Goals as goal

pub overflow_cast-result : goal.overflow_cast-result
overflow_cast-result c = omega (arith, leading_top 64 c.args.p c.requires.0 (omega (arith, c.if-p-lt4503599627370496.true)))

pub overflow_sub-result : goal.overflow_sub-result
overflow_sub-result c = omega (arith, leading_top 64 c.args.p c.requires.0 (omega (arith, c.if-p-lt4503599627370496.true)))

pub returns-then-p-lt4503599627370496 : goal.returns-then-p-lt4503599627370496
returns-then-p-lt4503599627370496 c = small_leading c.args.p c.requires.0 c.if-p-lt4503599627370496.true

pub returns-else-p-lt4503599627370496 : goal.returns-else-p-lt4503599627370496
returns-else-p-lt4503599627370496 c = large_leading c.args.p c.if-p-lt4503599627370496.false
