-- `derivatives::scaled_by` meets its contract: each turn of the loop is `scale_turn`.
use Rattle.std.proofs.Common.{ap, arith}
use Rattle.meaning.proofs.For.{first, next, last}
use Rattle.basis.specs.Basis.{Scaling, scaled}
use Rattle.basis.proofs.Laws.{scaled_row_lem, scale_turn_lem}
use Rattle.derivatives.proofs.scaled_by.Goals as goal

pub loop-k-init : goal.loop-k-init
loop-k-init g c = first (omega arith)

pub loop-k-preserved : goal.loop-k-preserved
loop-k-preserved g c =
    let o = g.S.Scalar.ops in
    let row = rw c.cst.ensures at c.scaled_row.ensures.value in
    next c.loop-k.invariant (omega arith) (scale_turn_lem o _ _ (scaled_row_lem o c.loop-k.k c.loop-k.factor c.loop-k.ders c.scaled_row.ensures.four row))

pub returns : goal.returns
unfolding scaled
returns g c = ap (λ (s : Scaling g.row.S.Denot). s.ders) (last c.loop-k.invariant (omega arith))
