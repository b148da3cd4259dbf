-- `Search::round` meets its contract.
use Rattle.plane.specs.View.{view}
use Rattle.shape.specs.Spline.{shape_of}
use Rattle.closest.proofs.Steps.{no_descent, arrived, moved}
use Rattle.closest.proofs.Search.round.Goals as goal

pub returns-then-g : goal.returns-then-g
returns-then-g c =
    let k = c.args.self.now in
    λ left. no_descent (shape_of k.curve) (view k.p) (record { t = c.args.t; left = left }) c.slope_at-g.ensures c.if-g.true

pub returns-then-size : goal.returns-then-size
returns-then-size c =
    let k = c.args.self.now in
    λ left.
    arrived (shape_of k.curve) (view k.p) (record { t = c.args.t; left = left }) c.slope_at-g.ensures c.if-g.false c.clamp-next.ensures c.size.ensures c.if-size.true

pub returns : goal.returns
returns c =
    let k = c.args.self.now in
    λ left.
    moved (shape_of k.curve) (view k.p) (record { t = c.args.t; left = left }) c.slope_at-g.ensures c.if-g.false c.clamp-next.ensures c.size.ensures c.if-size.false
