-- `build::in_turn` meets its contract: a turn copies one control point.
use Prim.Native.Nat.{◌-◌}
use native.Mathlib.Omega.{arith}
use mathlib.Core.Path.{◌≡◌}
use Rattle.meaning.proofs.Filling.{empty, front}
use Rattle.build.specs.Build.{in_turn}
use Rattle.build.proofs.Turned.{two_more}
use Rattle.build.proofs.in_turn.Goals as goal

pub loop-i-init : goal.loop-i-init
loop-i-init c = (omega arith, empty (omega arith))

pub loop-i-preserved : goal.loop-i-preserved
loop-i-preserved c = (omega arith, two_more _ _ c.loop-i.invariant.1 (omega arith))

pub returns : goal.returns
unfolding in_turn
returns c =
    let l = c.loop-i in
    let e : l.i ≡ c.args.n = omega arith in
    record { result_value = rw e at (front l.invariant.1); n_in_bounds = omega (arith, l.invariant.1.long) }
