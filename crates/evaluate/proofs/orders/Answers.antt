-- `evaluate::orders` meets its contract: the piece of the span in which t lies, or the end past which it lies.
use mathlib.Core.Path.{refl, sym, ap, ◌∙◌}
use mathlib.Core.Bool.{true≢false}
use Rattle.std.specs.Option.{unwrap_or}
use Rattle.meaning.specs.Scalar.{plain}
use Rattle.shape.specs.Spline.{shape_of}
use Rattle.evaluate.specs.Piece.{found, piece_of}
use Rattle.evaluate.proofs.Pieces.{on_window_is}
use Rattle.evaluate.proofs.Places.{out_of_range, answered}
use Rattle.evaluate.proofs.orders.Goals as goal

pub returns-then-not-in_range : goal.returns-then-not-in_range
returns-then-not-in_range c =
    out_of_range plain _ (shape_of c.args.spline) _ _ (λ w. true≢false (sym (c.in_range.ensures.1 w) ∙ c.if-not-in_range.true))

pub returns : goal.returns
returns c =
    let a = c.args in
    let s = shape_of a.spline in
    let i = c.span-i in
    let x = unwrap_or c.end_past-end.result a.t in
    c.orders_by.ensures
    ∙ rw c.piece_at.ensures
    (answered (found s) s a.t a.nd (c.in_range.ensures.0 c.if-not-in_range.false) (piece_of plain s i.result) refl refl c.end_past-end.ensures
    (λ m. on_window_is plain (found s) s x m i.result (i.ensures.fact_1 ∙ ap (found s) c.unwrap_or.ensures) i.ensures.fact_3 i.ensures.fact_4))
