-- `fit::interpolate` meets its contract: the buffer holds the definition's system.
use Rattle.std.proofs.Common.{◌≡◌, arith, ℕ, replicate, subst}
use Rattle.std.proofs.Math.Seq.{length-take-le}
use Rattle.std.proofs.Math.ListN.{length-replicate}
use Rattle.meaning.specs.Scalar.{plain, zero64}
use Rattle.meaning.specs.Search.{listed}
use Rattle.shape.specs.Shape.{points_in}
use Rattle.fit.specs.Parameters.{fit_parameter}
use Rattle.fit.proofs.Through.{solved-through}
use Rattle.fit.proofs.interpolate.Goals as goal

pub returns : goal.returns
returns c =
    let solve = c.solve-s.ensures in
    let q = c.args.q.now in
    let n = points_in q in
    let room = length-take-le n (replicate 64 zero64) (omega (arith, c.requires.1, length-replicate 64 zero64)) in
    let p = subst (λ (k : ℕ). c.fit_parameters.new.out ≡ listed 0 k (fit_parameter plain q k)) room c.fit_parameters.ensures in
    solved-through q _ _ c.requires.0 c.requires.1 p c.knots_by.ensures
    c.requires.2 (omega arith) c.fill-stored.ensures solve.fact_1 solve.fact_2 c.curve_with.ensures
