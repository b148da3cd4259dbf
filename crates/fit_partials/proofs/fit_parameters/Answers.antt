-- `fit_partials::fit_parameters` meets its contract: there is room for the steps.
use Rattle.std.proofs.Common.{◌≡◌, ◌∙◌, ap, arith, ◌+◌, ◌-◌, ℕ, length, replicate}
use Rattle.std.proofs.Math.Seq.{length-take-le}
use Rattle.std.proofs.Math.ListN.{length-replicate}
use Rattle.partials.specs.Dual.{dual}
use Rattle.fit.proofs.Through.{parameters_are}
use Rattle.fit_partials.specs.Variables.{variables_of}
use Rattle.fit_partials.proofs.fit_parameters.Goals as goal

pub returns : goal.returns
returns c =
    let n = length c.args.out.now in
    let back : n - 1 + 1 ≡ n = omega arith in
    let zero = c.cst-room.result in
    let room = length-take-le (n - 1) (replicate 12 zero) (omega (arith, length-replicate 12 zero)) in
    parameters_are dual (variables_of c.args.q.now) c.steps.new.out _ _ _ (ap (λ (k : ℕ). k + 1) room ∙ back) c.steps.ensures c.parameters.ensures
