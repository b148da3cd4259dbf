-- `derivatives::Order::first_coef` meets its contract, where there is such a coefficient and where not.
use Rattle.std.proofs.Common.{◌∙◌, set}
use Rattle.basis.proofs.Laws.{first_taken, first-left}
use Rattle.derivatives.specs.View.{coefs}
use Rattle.derivatives.proofs.Order.first_coef.Goals as goal

pub returns-then-self : goal.returns-then-self
returns-then-self g c = first-left g.S.Scalar.ops _ _ _ _ c.if-self.true

pub returns : goal.returns
returns g c =
    let o = g.S.Scalar.ops in
    let a = c.over-a.ensures ∙ (λ i. o.over (c.entry.ensures i) (c.entry-2.ensures i)) in
    let d = c.times.ensures ∙ (λ i. o.times (a i) (c.entry-3.ensures i)) in
    first_taken o _ c.args.self.r c.args.self.k _ c.if-self.false c.column-column.ensures (λ i. coefs c.args.old.now (set c.args.new.now 0 (a i)) (d i))
