-- `derivatives::column_of` meets its contract: each turn of the loop is `column_turn`.
use Rattle.meaning.proofs.For.{At}
use Rattle.basis.specs.Triangle.{column_turn}
use Rattle.derivatives.proofs.column_of.Given as goal

abbrev pub invariant-loop-r : goal.invariant-loop-r
invariant-loop-r g l = At 0 l.j (column_turn g.S.Scalar.ops l.left l.right l.j) (record { ndu = l.initial.ndu; saved = l.initial.saved }) l.r (record { ndu = l.ndu; saved = l.saved })
