-- `fit::stations::parameters` meets its contract: the running sum is the sum of the steps before, as long as there are steps.
use Rattle.std.proofs.Common.{◌≡◌, ◌∙◌, refl, ap, arith, ◌+◌, ◌-◌, length}
use Rattle.std.proofs.lemmas.List.{get_or_default}
use Rattle.meaning.specs.Table.{at1}
use Rattle.meaning.proofs.Filling.{empty, filled, full}
use Rattle.fit.specs.Parameters.{sum_of}
use Rattle.fit.proofs.Sums.{sum_none, sum_next, parameter_first, parameter_inner, parameter_past}
use Rattle.fit.proofs.stations.parameters.Goals as goal
use Rattle.fit.proofs.stations.parameters.Goals.{then-k-eq0, else-k-eq0+then-k-steps, else-k-eq0+else-k-steps}

pub loop-k-init : goal.loop-k-init
loop-k-init g c =
    let o = g.S.Scalar.ops in
    let st = at1 o c.args.steps.now in
    (λ h. c.cst-sum.ensures ∙ sum_none o st, empty refl)

pub loop-k-preserved : goal.loop-k-preserved
loop-k-preserved g c =
    let o = g.S.Scalar.ops in
    let l = c.loop-k in
    let steps = c.args.steps.now in
    let st = at1 o steps in
    let m = length steps in
    elim c.if-k-eq0.branch [
      | then-k-eq0 w ↦
          let e : l.k + 1 - 1 ≡ l.k - 1 = omega arith in (
            λ h. w.sum-is ∙ l.invariant.0 (omega arith) ∙ ap (sum_of o st) (omega arith),
            filled l.invariant.1 (omega arith) (w.p-is ∙ w.cst.ensures ∙ parameter_first o st (m + 1) l.k w.if-k-eq0.true),
          )
      | else-k-eq0+then-k-steps w ↦
          let back : l.k - 1 + 1 ≡ l.k = omega arith in
          let read = w.index-steps-k.is ∙ get_or_default steps (l.k - 1) _ o.off (omega arith) in
          let sum = sum_next o st (l.k - 1) (l.invariant.0 (omega arith)) (w.plus-sum.ensures ∙ ap (o.plus l.sum) read) ∙ ap (sum_of o st) back in
          let all : c.total-all.result ≡ sum_of o st (m + 1 - 1) = c.total-all.ensures ∙ ap (sum_of o st) (omega arith) in (
            λ h. w.sum-is ∙ sum ∙ ap (sum_of o st) (omega arith),
            filled l.invariant.1 (omega arith)
                (w.p-is ∙ w.over.ensures ∙ (λ t. o.over (sum t) (all t)) ∙ parameter_inner o st (m + 1) l.k (omega arith) (omega arith)),
          )
      | else-k-eq0+else-k-steps w ↦ (
        λ h. absurd (omega arith),
        filled l.invariant.1 (omega arith) (w.p-is ∙ w.cst-else-k-steps.ensures ∙ parameter_past o st (m + 1) l.k (omega arith) (omega arith)),
      )
    ]

pub returns : goal.returns
returns g c = full c.loop-k.invariant.1 (omega arith)
