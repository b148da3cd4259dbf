-- `evaluate::orders_slices` meets its contract: as `orders`, of the shape that the slices have.
use mathlib.Core.Path.{refl, sym, ap, ◌∙◌}
use mathlib.Core.Bool.{true≢false}
use Rattle.std.specs.Option.{unwrap_or}
use Rattle.meaning.specs.Scalar.{plain}
use Rattle.span.specs.Counting.{counted_of}
use Rattle.shape.specs.Shape.{slice_shape}
use Rattle.evaluate.specs.Piece.{Counted}
use Rattle.evaluate.proofs.Places.{out_of_range, answered}
use Rattle.evaluate.proofs.Slices.{right-count, wrong_count_lem, first_knot, last_knot, slices_read}
use Rattle.evaluate.proofs.orders_slices.Goals as goal
use Rattle.evaluate.proofs.orders_slices.Goals.{then-knots-n-via-then-knots-n, then-knots-n-via-else-knots-n+then-not-in_range}

pub returns-then-knots-n : goal.returns-then-knots-n
returns-then-knots-n c = elim c.then-knots-n.branch [
  | then-knots-n-via-then-knots-n w ↦ wrong_count_lem _ _ _ _ w.if-knots-n.true
  | then-knots-n-via-else-knots-n+then-not-in_range w ↦
      out_of_range plain _ (slice_shape c.args.coords.now c.args.knots.now) _ _ (λ r. true≢false (sym (w.in_range.ensures.1 r) ∙ w.if-not-in_range.true))
      ∙ right-count _ _ _ _ w.if-knots-n.false
]

pub returns : goal.returns
returns c =
    let a = c.args in
    let s = slice_shape a.coords.now a.knots.now in
    let r = c.in_range.ensures.0 c.if-not-in_range.false in
    let w : Counted a.coords.now a.knots.now = record { four = r.0; room = r.1; long = c.if-knots-n.false } in
    let i = c.span-i in
    let x = unwrap_or c.end_past-end.result a.t in
    let found = i.ensures.fact_1 ∙ ap (counted_of a.knots.now s.n) c.unwrap_or.ensures in
    c.orders_by.ensures
    ∙ rw (c.six.ensures, c.four.ensures, c.four-2.ensures)
    (answered _ s a.t a.nd r _ (first_knot _ _ w) (last_knot _ _ w) c.end_past-end.ensures
    (λ m. slices_read _ _ w x m i.result _ _ found i.ensures.fact_3 (i.ensures.fact_5 r.0) refl refl))
    ∙ right-count _ _ _ _ c.if-knots-n.false
