-- `Search::sample` meets its contract.
use mathlib.Core.Path.{◌≡◌, ap, ◌∙◌}
use mathlib.Core.Bool.{Bool, false, ◌&&◌}
use lib.Ieee.{inf, nan_bits, lt, le, of_bits}
use lib.Ieee.Scale.{finite}
use Rattle.plane.specs.View.{view}
use Rattle.shape.specs.Spline.{shape_of}
use Rattle.closest.specs.Search.{distance_at}
use Rattle.closest.specs.Sampling.{square_at}
use Rattle.closest.proofs.Steps.{square_is, distance_is, beyond, taken, passed}
use Rattle.closest.proofs.Search.sample.Goals as goal
use Rattle.closest.proofs.Search.sample.Goals.{After-both, After-both-fine}

pub float_from_bits-infinite : goal.float_from_bits-infinite
unfolding nan_bits
float_from_bits-infinite c = tt

-- the square, and whether it lies past the limit
squared : (c : After-both) → c.square-square.result ≡ square_at (shape_of c.args.self.now.curve) (view c.args.self.now.p) c.args.t
squared c = square_is _ c.args.self.now.accepted (view c.args.self.now.p) c.args.t c.args.i c.point_near-c.ensures c.square-square.ensures

past : (c : After-both) → c.both.result ≡ (le c.args.b.limit c.square-square.result && lt c.square-square.result (inf false))
unfolding of_bits
past c = c.both.ensures

-- the distance, and whether every one so far is finite
measured : (c : After-both-fine)
    → c.distance-d.result ≡ distance_at (shape_of c.args.self.now.curve) (view c.args.self.now.p) c.args.t
measured c =
    distance_is _ c.args.self.now.accepted (view c.args.self.now.p) c.args.t c.args.i c.point_near-c.ensures c.distance-d.ensures

fine : (c : After-both-fine) → c.both-fine.result ≡ (c.args.b.fine && finite c.distance-d.result)
fine c = c.both-fine.ensures ∙ ap (λ (f : Bool). c.args.b.fine && f) c.is_finite.ensures

pub returns-then-both : goal.returns-then-both
returns-then-both c =
    let a = c.args in
    beyond _ (view a.self.now.p) a.b a.t (squared (goal.at.returns-then-both c).After-both) (past (goal.at.returns-then-both c).After-both) c.if-both.true

pub returns-then-d-b : goal.returns-then-d-b
returns-then-d-b c =
    let a = c.args in
    taken _ (view a.self.now.p) a.b a.t (squared (goal.at.returns-then-d-b c).After-both) (past (goal.at.returns-then-d-b c).After-both) c.if-both.false (measured (goal.at.returns-then-d-b c).After-both-fine) (fine (goal.at.returns-then-d-b c).After-both-fine) c.if-d-b.true c.limit.ensures

pub returns : goal.returns
returns c =
    let a = c.args in
    passed _ (view a.self.now.p) a.b a.t (squared (goal.at.returns c).After-both) (past (goal.at.returns c).After-both) c.if-both.false (measured (goal.at.returns c).After-both-fine) (fine (goal.at.returns c).After-both-fine) c.if-d-b.false
