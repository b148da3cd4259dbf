-- `evaluate::Piece::orders_by` meets its contract.
use mathlib.Core.Path.{ap, ◌∙◌}
use mathlib.Core.List.{List}
use Prim.Native.Nat.{◌+◌}
use lib.Ieee.{Float}
use Rattle.meaning.specs.Scalar.{plain}
use Rattle.evaluate.specs.Piece.{of_four, on_window, on_piece}
use Rattle.evaluate.proofs.Places.{straight_on_is}
use Rattle.evaluate.proofs.Piece+f64.orders_by.Goals as goal

pub returns-in-Some : goal.returns-in-Some
unfolding on_window
returns-in-Some c =
    let a = c.args in
    let s = a.self.now in
    let e = c.in-Some.e in
    let rows = c.basis-ders.ensures in
    c.straight.ensures
    ∙ straight_on_is (on_piece plain s e 1) e a.t (a.nd + 1)
    (c.tangent.ensures.point ∙ ap (λ (d : List (List Float)). of_four plain s.xs s.ys d 0) rows)
    (c.tangent.ensures.tangent ∙ ap (λ (d : List (List Float)). of_four plain s.xs s.ys d 1) rows)
    c.scale.ensures c.add.ensures
    ∙ rw c.in-Some.is
