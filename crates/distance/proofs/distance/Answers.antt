-- `distance::distance` meets its contract.
use mathlib.Core.Path.{◌≡◌, ◌∙◌}
use mathlib.Core.Bool.{◌&&◌}
use lib.Dec.{T}
use lib.Ieee.{nan_bits, of_bits}
use lib.Ieee.Scale.{finite}
use Rattle.meaning.specs.Root.{unsigned}
use Rattle.plane.specs.View.{view}
use Rattle.distance.proofs.Distances.{told, wild, finite_x, finite_y, measured, sized}
use Rattle.distance.proofs.distance.Goals as goal
use Rattle.distance.proofs.distance.Goals.{After-both-2, After-size-y}

pub float_from_bits-least : goal.float_from_bits-least
unfolding nan_bits
float_from_bits-least c = tt

pub float_from_bits-infinite : goal.float_from_bits-infinite
unfolding nan_bits
float_from_bits-infinite c = tt

pub returns-then-both : goal.returns-then-both
unfolding of_bits
returns-then-both c = told (view c.args.a) (view c.args.b) c.square-s.ensures c.both.ensures c.if-both.true c.root.ensures

-- both differences are asked
asked : (c : After-both-2) → c.both-2.result ≡ (finite c.sub-d.result.x && finite c.sub-d.result.y)
asked c = c.both-2.ensures ∙ (λ i. c.is_finite.ensures i && c.is_finite-2.ensures i)

-- and their sizes
sizes : (c : After-size-y) → c.both-2.result ≡ (finite c.sub-d.result.x && finite c.sub-d.result.y)
    → T (unsigned c.size-x.result) × T (unsigned c.size-y.result)
sizes c asks =
    let a = view c.args.a in
    let b = view c.args.b in (
      sized c.sub-d.result.x c.size-x.ensures (finite_x a b c.square-s.ensures c.sub-d.ensures asks c.if-both-2.true),
      sized c.sub-d.result.y c.size-y.ensures (finite_y a b c.square-s.ensures c.sub-d.ensures asks c.if-both-2.true),
    )

pub larger-requires : goal.larger-requires
larger-requires c = sizes c (asked (goal.at.larger-requires c).After-both-2)

pub length-requires : goal.length-requires
length-requires c =
    let s = sizes (goal.at.length-requires c).After-size-y (asked (goal.at.length-requires c).After-both-2) in
    (s.0, s.1, c.larger.ensures.0, c.larger.ensures.1)

pub returns-then-both-2 : goal.returns-then-both-2
returns-then-both-2 c =
    measured (view c.args.a) (view c.args.b) c.square-s.ensures c.sub-d.ensures (asked (goal.at.returns-then-both-2 c).After-both-2)
    c.if-both-2.true c.size-x.ensures c.size-y.ensures c.length.ensures

pub returns : goal.returns
returns c =
    wild (view c.args.a) (view c.args.b) c.square-s.ensures c.sub-d.ensures (asked (goal.at.returns c).After-both-2) c.if-both-2.false
    c.root-2.ensures
