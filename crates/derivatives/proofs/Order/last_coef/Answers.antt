-- `derivatives::Order::last_coef` meets its contract, where there is such a coefficient and where not.
use Rattle.std.proofs.Common.{◌∙◌, set}
use Rattle.basis.proofs.Laws.{last_taken, last-left}
use Rattle.derivatives.specs.View.{coefs}
use Rattle.derivatives.proofs.Order.last_coef.Goals as goal

pub returns-then-self : goal.returns-then-self
returns-then-self g c = last-left g.S.Scalar.ops _ _ _ _ c.if-self.true

pub returns : goal.returns
returns g c =
    let o = g.S.Scalar.ops in
    let term = c.opp.ensures ∙ (λ i. o.opp (c.entry.ensures i)) in
    let a = c.over-a.ensures ∙ (λ i. o.over (term i) (c.entry-2.ensures i)) in
    let product = c.times.ensures ∙ (λ i. o.times (a i) (c.entry-3.ensures i)) in
    let d = c.plus.ensures ∙ (λ i. o.plus c.args.d (product i)) in
    last_taken o _ _ _ _ c.if-self.false (λ i. coefs c.args.old.now (set c.args.new.now c.args.self.k (a i)) (d i))
