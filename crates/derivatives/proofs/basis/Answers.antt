-- `derivatives::basis` meets its contract: each turn of the loop is `function_of`.
use Rattle.std.proofs.Common.{arith}
use Rattle.meaning.proofs.For.{first, next, last}
use Rattle.basis.specs.Basis.{functions_of}
use Rattle.basis.proofs.Laws.{none-but-values, derivatives_of_lem}
use Rattle.derivatives.proofs.basis.Goals as goal

pub returns-then-nd-eq0 : goal.returns-then-nd-eq0
returns-then-nd-eq0 g c = rw c.cst-zeros.ensures (none-but-values g.S.Scalar.ops _ 2 _ _ (omega arith) c.values.ensures)

pub loop-r-init : goal.loop-r-init
loop-r-init g c = first (omega arith)

pub loop-r-preserved : goal.loop-r-preserved
loop-r-preserved g c = next c.loop-r.invariant (omega arith) c.function_of.ensures

pub returns : goal.returns
unfolding functions_of
returns g c =
    derivatives_of_lem g.S.Scalar.ops _ 2 _ _ c.triangle_of-ndu.ensures c.values_of-ders.ensures c.orders_of-n.ensures (last c.loop-r.invariant (omega arith)) c.scaled_by.ensures
