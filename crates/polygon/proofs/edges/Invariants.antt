-- `polygon::edges` meets its contract: a turn adds the distance of two neighbours.
use Prim.Native.Nat.{◌-◌}
use Rattle.meaning.specs.Scalar.{plain}
use Rattle.meaning.proofs.For.{At}
use Rattle.plane.specs.Vector.{sub_v, norm_v}
use Rattle.polygon.specs.Stepped.{corner_at}
use Rattle.polygon.proofs.edges.Given as goal

abbrev pub invariant-loop-i : goal.invariant-loop-i
invariant-loop-i l =
    At 1 l.n (λ j x. plain.plus x (norm_v plain (sub_v plain (corner_at l.step l.xs l.ys j) (corner_at l.step l.xs l.ys (j - 1))))) l.initial.s l.i l.s
