-- `Search::newton` meets its contract: the laws of a `while` loop, with the rounds that are left as its measure.
use Prim.Native.Nat.{◌-◌}
use Rattle.meaning.proofs.While.{Rest}
use Rattle.plane.specs.View.{view}
use Rattle.shape.specs.Spline.{shape_of}
use Rattle.closest.specs.Search.{unfinished, round_of}
use Rattle.closest.proofs.Search.newton.Given as goal

abbrev pub invariant-loop-round : goal.invariant-loop-round
invariant-loop-round l =
    Rest unfinished (round_of (shape_of l.self.curve) (view l.self.p)) (λ x. x.left) (record { t = l.fn.t; left = 30 }) (record { t = l.at; left = 30 - l._round })
