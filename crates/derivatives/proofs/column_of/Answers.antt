-- `derivatives::column_of` meets its contract: each turn of the loop is `column_turn`.
use Rattle.std.proofs.Common.{refl, ◌∙◌, arith}
use Rattle.meaning.proofs.For.{first, next, last}
use Rattle.basis.specs.Triangle.{cell_of}
use Rattle.basis.proofs.Laws.{column_turn_lem, column_of_lem}
use Rattle.derivatives.proofs.column_of.Goals as goal

pub loop-r-init : goal.loop-r-init
loop-r-init g c = first (omega arith)

pub loop-r-preserved : goal.loop-r-preserved
loop-r-preserved g c =
    let o = g.S.Scalar.ops in
    let cell = c.cell_of-cell.ensures ∙ (λ i. cell_of o (c.entry.ensures i) (c.entry-in-loop-r.ensures i) (c.entry-in-loop-r-2.ensures i) c.loop-r.saved) in
    next c.loop-r.invariant c.loop-r-test.true (column_turn_lem o _ _ _ _ _ cell refl)

pub returns : goal.returns
returns g c =
    let end = c.loop-r in
    column_of_lem g.S.Scalar.ops _ _ _ _ (record { ndu = end.ndu; saved = end.saved }) (rw c.cst-saved.ensures at (last end.invariant c.loop-r-test.false))
