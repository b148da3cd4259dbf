-- `derivatives::Order::mid_coefs` meets its contract: each turn of the loop is `mid_turn`.
use Rattle.std.proofs.Common.{◌∙◌, set, arith}
use Rattle.meaning.proofs.For.{first, next, last}
use Rattle.basis_columns.specs.Columns.{below}
use Rattle.basis.specs.Derivatives.{mid_coefs}
use Rattle.basis.proofs.InTable.{range_in}
use Rattle.basis.proofs.Laws.{mid_turn_lem}
use Rattle.derivatives.specs.View.{coefs}
use Rattle.derivatives.proofs.Order.mid_coefs.Goals as goal

pub loop-j-init : goal.loop-j-init
loop-j-init g c =
    let a = c.args in
    rw c.first_j-first.ensures (first (range_in a.self.r a.self.k (omega arith) (omega arith) (omega arith)))

pub loop-j-preserved : goal.loop-j-preserved
loop-j-preserved g c =
    let o = g.S.Scalar.ops in
    let turn = c.loop-j in
    let term = c.minus.ensures ∙ (λ i. o.minus (c.entry.ensures i) (c.entry-in-loop-j.ensures i)) in
    let a = c.over-a.ensures ∙ (λ i. o.over (term i) (c.entry-in-loop-j-2.ensures i)) in
    let product = c.times.ensures ∙ (λ i. o.times (a i) (c.entry-in-loop-j-3.ensures i)) in
    let d = c.plus-sum.ensures ∙ (λ i. o.plus turn.sum (product i)) in
    next turn.invariant (omega arith)
    (mid_turn_lem o _ (below c.args.self.r c.args.self.k) c.args.self.k turn.j _ c.column-column.ensures (λ i. coefs c.args.old.now (set turn.new turn.j (a i)) (d i)))

pub returns : goal.returns
unfolding mid_coefs
returns g c = last c.loop-j.invariant (omega arith)
