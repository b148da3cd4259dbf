-- `distance::power` meets its contract.
use native.Mathlib.Omega.{arith}
use mathlib.Core.Path.{sym, subst}
use mathlib.Core.Bool.{false}
use Prim.Native.Nat.{ℕ, ◌^◌}
use lib.Pow.{pow-lt}
use lib.Ieee.{binary64, of_bits}
use lib.Ieee.Exact.{HasValue}
use Rattle.root.proofs.NoNan.{no_nan}
use Rattle.distance.proofs.Powers.{shifted, small_power, large_power}
use Rattle.distance.proofs.power.Goals as goal

pub float_from_bits-result : goal.float_from_bits-result
float_from_bits-result c = no_nan _ (omega (arith, shifted c.args.j c.if-j-lt52.true, pow-lt {i = c.args.j} {j = 52} c.if-j-lt52.true))

pub float_from_bits-result-else-j-lt52 : goal.float_from_bits-result-else-j-lt52
float_from_bits-result-else-j-lt52 c = no_nan _ (omega (arith, c.requires))

pub returns-then-j-lt52 : goal.returns-then-j-lt52
returns-then-j-lt52 c =
    let j = c.args.j in
    subst (λ (p : ℕ). HasValue (of_bits binary64 p) false (2 ^ j) (2 ^ 1074)) (sym (shifted j c.if-j-lt52.true)) (small_power j c.if-j-lt52.true)

pub returns-else-j-lt52 : goal.returns-else-j-lt52
returns-else-j-lt52 c = large_power c.args.j c.if-j-lt52.false c.requires
