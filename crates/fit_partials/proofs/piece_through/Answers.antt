-- `fit_partials::piece_through` meets its contract: the arrays and the filled slices are the definition's, and so is the answer.
use Rattle.std.proofs.Common.{◌≡◌, sym, ap, subst, ◌∙◌, arith, ℕ, ◌+◌, ◌*◌, [], replicate}
use mathlib.Core.List.{flatten}
use Rattle.std.proofs.Math.Seq.{length-take-le}
use Rattle.std.proofs.Math.ListN.{length-replicate}
use mathlib.Core.Bool.{Bool, ◌&&◌}
use Rattle.meaning.specs.Table.{at1}
use Rattle.meaning.specs.Search.{listed}
use Rattle.partials.specs.Dual.{dual}
use Rattle.shape.specs.Shape.{points_in}
use Rattle.solve.specs.Rows.{flat}
use Rattle.solve.specs.Stored.{all_fine}
use Rattle.solve_partials.specs.View as Solved
use Rattle.fit.specs.Parameters.{fit_parameter}
use Rattle.fit.proofs.Six.{all-fine}
use Rattle.fit_partials.specs.Variables.{variables_of}
use Rattle.fit_partials.specs.Stored.{Room, Laid, found_fit_rows, ReadyFit}
use Rattle.fit_partials.proofs.Numbers.{fit_tidy}
use Rattle.fit_partials.proofs.Through.{how_many, parameter_is, knots_made}
use Rattle.fit_partials.proofs.Answered.{piece_is, doubles-after, counts-after}
use Rattle.fit_partials.proofs.piece_through.Goals as goal
use Rattle.fit_partials.proofs.piece_through.Goals.{After-fit_parameters}

-- the parameters are the definition's
made : (c : After-fit_parameters)
    → let q = c.args.q.now in c.fit_parameters.new.out ≡ listed 0 (points_in q) (fit_parameter dual (variables_of q) (points_in q))
made c =
    let q = c.args.q.now in
    let n = points_in q in
    let zero = c.cst-zero.result in
    let room = length-take-le n (replicate 12 zero) (omega (arith, c.requires.1, length-replicate 12 zero)) in
    subst (λ (k : ℕ). c.fit_parameters.new.out ≡ listed 0 k (fit_parameter dual (variables_of q) k)) room c.fit_parameters.ensures

pub fill-stored-requires : goal.fill-stored-requires
fill-stored-requires c =
    let a = c.args in
    let q = a.q.now in
    let p = c.fit_parameters.new.out in
    let k = c.knots_by.new.out in
    let hp = made (goal.at.fill-stored-requires c).After-fit_parameters in
    let many = sym (how_many q p hp) in
    let ready = fit_tidy a.c q c.requires.2 (points_in q) k p c.requires.0 (parameter_is q p hp) (knots_made q p hp k c.knots_by.ensures) in
    record {
      fact_1 = subst (λ (n : ℕ). Room a.c 0 ((n + 2) * (n + 2 + 2)) a.w.now a.ns.now) many c.requires.3;
      fact_2 = subst (λ (n : ℕ). ReadyFit a.c n k p q) many ready;
    }

pub piece_with-requires : goal.piece_with-requires
piece_with-requires c =
    (c.span-i.ensures.fact_3, omega (arith, c.span-i.ensures.fact_5 (omega (arith, c.requires.0)), c.requires.1))

pub returns : goal.returns
returns c =
    let a = c.args in
    let q = a.q.now in
    let r = c.requires in
    let p = c.fit_parameters.new.out in
    let k = c.knots_by.new.out in
    let u = c.values-u.result in
    let m = c.fill-stored.new in
    let made-p = made (goal.at.returns c).After-fit_parameters in
    let many = how_many q p made-p in
    let hp = parameter_is q p made-p in
    let hk = knots_made q p made-p k c.knots_by.ensures in
    let hu = c.values-u.ensures in
    let laid = subst (λ (n : ℕ). Laid a.c 0 ((n + 2) * (n + 2 + 2)) (at1 dual (flat (found_fit_rows k u p q n) [])) a.w.now a.ns.now m.w m.ns) many c.fill-stored.ensures.fact_1 in
    let fine = subst (λ (n : ℕ). c.fill-stored.result ≡ all_fine dual (flatten (found_fit_rows k u p q n))) many c.fill-stored.ensures.fact_2 in
    let tame = c.all_fine.ensures ∙ all-fine dual k in
    let call = c.solve-s.ensures in record {
      answer = c.piece_with.ensures
          ∙ piece_is q r.0 r.1 p k u hp hk hu a.c _ _ _ _ r.3 laid
          a.t _ (Solved.view c.solve-s.result) _ _ c.span-i.ensures.fact_1 call.answers fine
          (ap (λ (b : Bool). b && c.fill-stored.result) tame);
      doubles = call.doubles ∙ doubles-after q r.0 r.1 p k u hp hk hu a.c _ _ _ _ r.3 laid;
      counts = call.counts ∙ counts-after q r.0 r.1 p k u hp hk hu a.c _ _ _ _ r.3 laid;
    }
