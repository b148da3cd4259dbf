-- `derivatives::triangle_of` meets its contract: each turn of the loop is `sides_turn`.
use Rattle.meaning.proofs.For.{At}
use Rattle.basis.specs.Triangle.{sides_turn, no_sides}
use Rattle.derivatives.proofs.triangle_of.Given as goal

abbrev pub invariant-loop-j : goal.invariant-loop-j
invariant-loop-j g l = At 1 4 (sides_turn g.S.Scalar.ops l.w 2 l.t) (no_sides g.S.Scalar.ops) l.j (record { ndu = l.ndu; left = l.left; right = l.right })
