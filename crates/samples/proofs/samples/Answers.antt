-- `samples::samples` meets its contract: the rules of the curve, then the answer.
use mathlib.Core.Path.{refl, ap, ◌∙◌}
use mathlib.Core.List.{List, [], ◌∷◌}
use Prim.Native.Nat.{◌-◌}
use native.Mathlib.Omega.{arith}
use lib.Dec.{ltb}
use lib.ListN.{length}
use lib.Ieee.{Float}
use Rattle.refusal.specs.Refusals.{row}
use Rattle.refusal.proofs.Rows.{ok_passed}
use Rattle.outcome.specs.Outcome.{Outcome, answering, delivery_rules}
use Rattle.outcome.proofs.Doors.{leaves, refused, after}
use Rattle.shape.specs.Shape.{Shape}
use Rattle.offer.proofs.Handed.{rules_refused, is_refused}
use Rattle.offer.proofs.Knots.{many_knots, knot_in}
use Rattle.samples.specs.Samples.{samples_of, counting, samples_answer}
use Rattle.samples.proofs.Sampled.{count_refused, same_samples}
use Rattle.samples.proofs.samples.Goals as goal

pub returns-in_err-check : goal.returns-in_err-check
unfolding samples_answer
returns-in_err-check g c =
    let was = c.in_err-check.was in
    let told = c.from_residual.ensures in
    λ n. count_refused _ told.0 (leaves (refused _ _ (rules_refused was _ told _ c.check.ensures.rules) (is_refused was _ told))) _ n

pub answer_samples-requires : goal.answer_samples-requires
answer_samples-requires g c =
    let who = c.args.curve.now in
    let passed = ok_passed _ c.check.ensures.rules c.in_ok-check.was in
    let many = many_knots (g.C.Offer.offered who) (g.met.C.Offer.sound who) passed (c.knots.ensures passed) in
    let k = (g.met.C.Offer.sound who).knots passed in record {
      fact_1 = omega (arith, many);
      fact_2 = omega (arith, many, k.room);
    }

pub returns : goal.returns
unfolding samples_answer
returns g c =
    let a = c.args in
    let who = g.C.Offer.offered a.curve.now in
    let sound = g.met.C.Offer.sound a.curve.now in
    let out = a.out.now in
    let passed = ok_passed _ c.check.ensures.rules c.in_ok-check.was in
    let ks = c.knots.result.now in
    let many = many_knots who sound passed (c.knots.ensures passed) in
    let read : Shape Float = record { n = length ks - 4; xs = []; ys = []; knots = ks } in
    let same = same_samples read who.shape a.per (omega (arith, many)) (λ i h. knot_in who sound passed (c.knots.ensures passed) i (omega (arith, many))) in
    let n = length (samples_of who.shape a.per) in
    λ m.
    c.answer_samples.ensures m
    ∙ ap
    (λ (l : List Float). counting (answering (row 13 (ltb 16 a.per) ∷ delivery_rules l (length l) out) l (length l) out) (length l) m) same
    ∙ ap (λ (o : Outcome). counting o n m) (leaves (after who.rules sound.counted passed (record { is = refl })))
