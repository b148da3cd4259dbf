-- `fit::stations::total` meets its contract: the sum so far is that of the steps before.
use Rattle.std.proofs.Common.{◌≡◌, ◌∙◌, ap, arith, length}
use Rattle.std.proofs.lemmas.List.{get_or_default}
use Rattle.meaning.specs.Table.{at1}
use Rattle.fit.proofs.Sums.{sum_none, sum_next}
use Rattle.fit.proofs.stations.total.Goals as goal

pub loop-step-init : goal.loop-step-init
loop-step-init g c = let o = g.S.Scalar.ops in c.cst-sum.ensures ∙ sum_none o (at1 o c.args.steps.now)

pub loop-step-preserved : goal.loop-step-preserved
loop-step-preserved g c =
    let o = g.S.Scalar.ops in
    let l = c.loop-step in
    sum_next o (at1 o c.args.steps.now) l.step-index l.invariant
    (c.plus-sum.ensures ∙ ap (o.plus l.sum) (c.step-item.is ∙ get_or_default c.args.steps.now l.step-index _ o.off c.loop-step-test.true))

pub returns : goal.returns
returns g c =
    let o = g.S.Scalar.ops in
    let e : c.loop-step.step-index ≡ length c.args.steps.now = omega arith in
    rw e at c.loop-step.invariant
