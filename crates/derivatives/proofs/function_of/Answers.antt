-- `derivatives::function_of` meets its contract: each turn of the loop is `order_turn`.
use Rattle.std.proofs.Common.{ap, ◌∙◌, arith}
use Rattle.meaning.specs.Scalar.{zero64}
use Rattle.meaning.proofs.For.{first, next, last}
use Rattle.basis.specs.Basis.{Orders, function_of}
use Rattle.basis.proofs.Laws.{order_turn_lem, sum-cleared}
use Rattle.derivatives.specs.View.{coefs}
use Rattle.derivatives.proofs.function_of.Goals as goal

pub loop-k-init : goal.loop-k-init
loop-k-init g c = (g.S.Scalar.ops.cst zero64, rw (c.cst.ensures, c.cst-zero.ensures) (first (omega arith)))

pub loop-k-preserved : goal.loop-k-preserved
loop-k-preserved g c =
    let o = g.S.Scalar.ops in
    let l = c.loop-k in
    let order = c.order_of.ensures ∙ sum-cleared o c.args.ndu.now c.args.r l.k l.old l.new _ l.invariant.0 in
    (c.order_of.result, next l.invariant.1 (omega arith) (order_turn_lem o _ _ _ (record { coefs = coefs l.old l.new l.invariant.0; ders = l.ders }) order))

pub returns : goal.returns
unfolding function_of
returns g c = ap (λ (s : Orders g.row.S.Denot). s.ders) (last c.loop-k.invariant.1 (omega arith))
