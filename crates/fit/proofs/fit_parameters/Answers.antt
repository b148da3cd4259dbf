-- `fit::fit_parameters` meets its contract: there is room for the steps.
use Rattle.std.proofs.Common.{◌≡◌, ◌∙◌, ap, arith, ◌+◌, ◌-◌, ℕ, length, replicate}
use Rattle.std.proofs.Math.Seq.{length-take-le}
use Rattle.std.proofs.Math.ListN.{length-replicate}
use Rattle.meaning.specs.Scalar.{plain, zero64}
use Rattle.fit.proofs.Through.{parameters_are}
use Rattle.fit.proofs.fit_parameters.Goals as goal

pub returns : goal.returns
returns c =
    let n = length c.args.out.now in
    let back : n - 1 + 1 ≡ n = omega arith in
    let room = length-take-le (n - 1) (replicate 64 zero64) (omega (arith, length-replicate 64 zero64)) in
    parameters_are plain c.args.q.now c.steps.new.out _ _ _ (ap (λ (k : ℕ). k + 1) room ∙ back) c.steps.ensures c.parameters.ensures
