-- `evaluate::Piece::beyond` meets its contract.
use mathlib.Core.Path.{ap, ◌∙◌}
use mathlib.Core.List.{List}
use Rattle.partials.specs.declared.Dv.{Dv}
use Rattle.partials.specs.Dual.{dual}
use Rattle.evaluate.specs.Piece.{of_four, on_window, on_piece}
use Rattle.evaluate.proofs.Places.{straight_by}
use Rattle.evaluate.proofs.Piece+Dv.beyond.Goals as goal

pub returns : goal.returns
unfolding on_window
returns c =
    let a = c.args in
    let s = a.self.now in
    let rows = c.basis-ders.ensures in
    straight_by dual (on_piece dual s a.e 1) a.e a.t
    (c.tangent.ensures.point ∙ ap (λ (d : List (List Dv)). of_four dual s.xs s.ys d 0) rows)
    (c.tangent.ensures.tangent ∙ ap (λ (d : List (List Dv)). of_four dual s.xs s.ys d 1) rows)
    c.sub.ensures c.scale.ensures c.add.ensures
