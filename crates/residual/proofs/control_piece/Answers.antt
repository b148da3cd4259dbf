-- `residual::control_piece` meets its contract.
use mathlib.Core.Path.{refl}
use Prim.Native.Nat.{◌<◌}
use native.Mathlib.Omega.{arith}
use Rattle.shape.specs.Shape.{points_in}
use Rattle.knots.specs.Given.{given, given_list}
use Rattle.residual.proofs.Controls.{room, control-read}
use Rattle.residual.proofs.control_piece.Goals as goal
use Rattle.residual.proofs.control_piece.Goals.{After-span-i}

-- the span lies below the number of points
below : (c : After-span-i) → c.span-i.result < points_in c.args.q.now
below c =
    let a = c.args in
    c.span-i.ensures.fact_5 (room a.q.now (given a.knots) (given_list (λ k. k.now) a.knots) c.requires).0

pub bounds-u-n : goal.bounds-u-n
bounds-u-n c =
    let a = c.args in
    omega (arith, (room a.q.now (given a.knots) (given_list (λ k. k.now) a.knots) c.requires).1)

pub four-xs-requires : goal.four-xs-requires
four-xs-requires c = omega (arith, below (goal.at.four-xs-requires c).After-span-i)

pub four-ys-requires : goal.four-ys-requires
four-ys-requires c = omega (arith, below (goal.at.four-ys-requires c).After-span-i)

pub returns : goal.returns
returns c =
    let a = c.args in
    control-read a.q.now (given a.knots) (given_list (λ k. k.now) a.knots) c.requires c.stored_knots-u.ensures a.t c.span-i.result _ refl refl
    (rw c.clamp.ensures at c.span-i.ensures.fact_2) c.span-i.ensures.fact_3 (below (goal.at.returns c).After-span-i) c.constants-knots.ensures
    c.four-xs.ensures c.four-ys.ensures
