-- `evaluate::point_near` meets its contract: by the span that was tried, or as the orders have it.
use mathlib.Core.Path.{sym, ◌∙◌}
use Rattle.shape.specs.Spline.{shape_of}
use Rattle.evaluate.proofs.Near.{near_span, near_other}
use Rattle.evaluate.proofs.point_near.Goals as goal

pub returns-then-within : goal.returns-then-within
returns-then-within c =
    let a = c.args in
    let i = c.within.ensures.fact_2 c.if-within.true in
    c.inside.ensures ∙ rw c.piece_at.ensures (near_span (shape_of a.spline) a.t a.i i.0 i.1 (sym c.within.ensures.fact_1 ∙ c.if-within.true))

pub returns : goal.returns
returns c = near_other (shape_of c.args.spline) c.args.t c.args.i (sym c.within.ensures.fact_1 ∙ c.if-within.false) c.orders-at.ensures
