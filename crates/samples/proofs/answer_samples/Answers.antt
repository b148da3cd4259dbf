-- `samples::answer_samples` meets its contract: the samples are made in a room of their own and delivered, and then they are counted.
use mathlib.Core.Path.{◌≡◌, refl, sym, ap, ◌∙◌}
use mathlib.Core.List.{List, [], ◌∷◌, ◌++◌}
use Prim.Native.Nat.{◌-◌}
use native.Mathlib.Nat.{suc-ne-zero}
use borrow.Author.Tests.{lt-ltb, le-ltb}
use lib.Dec.{ltb}
use lib.ListN.{length, drop, replicate}
use lib.Ieee.{Float}
use Rattle.meaning.specs.Scalar.{zero64}
use Rattle.refusal.specs.Refusals.{row, verdict}
use Rattle.refusal.proofs.Rows.{handed_on}
use Rattle.outcome.specs.Outcome.{delivery_rules, Outcome, outcome, answering}
use Rattle.outcome.proofs.Doors.{leaves, stop, pass}
use Rattle.samples.specs.Samples.{samples_of, samples_answer}
use Rattle.samples.proofs.Sampled.{delivered_front, walk_count, walk_room, count_stays, count-given, count_refused}
use Rattle.samples.proofs.answer_samples.Goals as goal
use Rattle.samples.proofs.answer_samples.Goals.{After-walk-count}

pub returns-then-per-gt16 : goal.returns-then-per-gt16
unfolding samples_answer
returns-then-per-gt16 c = λ n. count_stays (leaves (stop 12 refl (lt-ltb _ _ c.if-per-gt16.true))) _ n (suc-ne-zero 12)

abbrev samples : After-walk-count → List Float
samples c = let a = c.args in samples_of (record { n = length a.knots.now - 4; xs = []; ys = []; knots = a.knots.now }) a.per

abbrev room_of : After-walk-count → List Float
room_of c = c.walk-count.new.room

count-is : (c : After-walk-count) → c.walk-count.result ≡ length (samples c)
count-is c =
    walk_count (length c.args.knots.now - 4) c.args.knots.now c.args.per (replicate 1105 zero64) c.walk-count.ensures.fact_1

room-is : (c : After-walk-count) → room_of c ≡ samples c ++ drop (length (samples c)) (replicate 1105 zero64)
room-is c =
    walk_room (length c.args.knots.now - 4) c.args.knots.now c.args.per (replicate 1105 zero64) c.walk-count.ensures.fact_1

-- what is delivered of the room is the answer of the curve
answered : (c : After-walk-count) {o : Outcome} → let out = c.args.out.now in let k = c.walk-count.result in
    o ≡ answering (delivery_rules (room_of c) k out) (room_of c) k out
    → o ≡ answering (row 13 (ltb 16 c.args.per) ∷ delivery_rules (samples c) (length (samples c)) out) (samples c) (length (samples c)) out
answered c a =
    leaves (pass 13 (le-ltb _ _ c.if-per-gt16.false) (delivered_front (room_of c) (samples c) _ c.args.out.now (room-is c) (count-is c) a))

pub returns-in_err-deliver : goal.returns-in_err-deliver
unfolding samples_answer
returns-in_err-deliver c =
    let told = c.from_residual.ensures in
    λ n.
    count_refused _ told.0
    (ap (λ v. outcome v c.deliver.new.out) (handed_on c.in_err-deliver.was _ told) ∙ answered (goal.at.returns-in_err-deliver c).After-walk-count c.deliver.ensures) _ n

pub returns : goal.returns
unfolding samples_answer
returns c =
    let was = c.in_ok-deliver.was in
    λ n.
    count-given (ap (λ v. outcome v c.deliver.new.out) (sym (ap verdict was)) ∙ answered (goal.at.returns c).After-walk-count c.deliver.ensures) _ n refl
    (count-is (goal.at.returns c).After-walk-count)
