-- `build::in_turn` meets its contract: a turn copies one control point.
use Prim.Native.Nat.{◌-◌, ◌*◌, ◌≤◌}
use lib.Ieee.{nan}
use Rattle.meaning.proofs.Filling.{Filled}
use Rattle.build.proofs.Turned.{turned}
use Rattle.build.proofs.in_turn.Given as goal

abbrev pub invariant-loop-i : goal.invariant-loop-i
invariant-loop-i l = (l.i ≤ l.n) × Filled (turned l.xs l.ys) nan 132 (2 * l.i) l.a
