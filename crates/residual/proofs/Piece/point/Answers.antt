-- `residual::Piece::point` meets its contract: before the domain, past it, in it.
use mathlib.Core.Path.{ap, ◌∙◌}
use Rattle.partials.specs.declared.Dv.{Dv}
use Rattle.partials.specs.Dual.{dual}
use Rattle.evaluate.specs.Point.{straight_on}
use Rattle.evaluate.specs.Piece.{on_piece}
use Rattle.residual.proofs.Pieces.{point_before, point_past, point_inside}
use Rattle.residual.proofs.Piece.point.Goals as goal

pub returns-then-t-self : goal.returns-then-t-self
returns-then-t-self c =
    let a = c.args in
    λ k r.
    c.beyond.ensures
    ∙ ap (λ (e : Dv). straight_on dual (on_piece dual a.self.now.span e 1) e a.t 0) c.cst.ensures
    ∙ point_before k a.self.now a.t r c.if-t-self.true

pub returns-then-t-self-2 : goal.returns-then-t-self-2
returns-then-t-self-2 c =
    let a = c.args in
    λ k r.
    c.beyond-then-t-self-2.ensures
    ∙ ap (λ (e : Dv). straight_on dual (on_piece dual a.self.now.span e 1) e a.t 0) c.cst-then-t-self-2.ensures
    ∙ point_past k a.self.now a.t r c.if-t-self.false c.if-t-self-2.true

pub returns : goal.returns
returns c =
    let a = c.args in
    λ k r. c.inside.ensures ∙ point_inside k a.self.now a.t r c.if-t-self.false c.if-t-self-2.false
