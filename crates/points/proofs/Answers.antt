-- The whole call, for a curve offered in whatever way, and demand 3 of each parameter: of any refusal and any slices that the contract allows, so of any
-- body that meets it. Assumes nothing.
use mathlib.Core.Path.{◌≡◌, refl, sym, ap, ◌∙◌, subst}
use mathlib.Core.List.{List, [], ◌++◌}
use Prim.Native.Nat.{ℕ, ◌<◌}
use borrow.Author.Tests.{ltb-false}
use lib.ListN.{length, get_or}
use lib.Ieee.{Float}
use Rattle.meaning.specs.Scalar.{plain}
use Rattle.meaning.specs.Table.{at1}
use Rattle.refusal.specs.Refusals.{Verdict, Row, refusal, none, first_of}
use Rattle.refusal.proofs.Rows.{Passed, number_of, row_passed, second_decides, first_decides, both_pass}
use Rattle.outcome.specs.Outcome.{Outcome, outcome}
use Rattle.shape.specs.Offered.{Offered}
use Rattle.shape.proofs.Sound.{Sound}
use Rattle.evaluate.specs.Point.{orders_of}
use Rattle.evaluate.specs.Piece.{found}
use Rattle.many.specs.Many.{place_of, Many, many, answering_many}
use Rattle.many.proofs.Rooms.{room_passed}
use Rattle.many.proofs.Asked.{Keeps, Asked, asked_alone, many_refused, many-answered}
use Rattle.hull.proofs.Given.{Doubles}
use Rattle.point.specs.Point.{numbers_for, point_answer}
use Rattle.point.proofs.Answered.{point_answered}
use Rattle.point.proofs.Promised.{in_hull, never_refused}
use Rattle.points.specs.Points.{call_rows, points_answer, EachInItsHull, NoneRefused}
use Rattle.points.specs.Turn.{each_of, Fits}
use Rattle.points.proofs.Turns.{keeps_each}

-- what the rows of a call leave where none applies
pub call_fits : (n order : ℕ) (out : List Float) (refusals : List ℕ) → Passed (call_rows n order (length out) (length refusals)) → Fits n order out refusals
call_fits n order out refusals h =
    let low = row_passed 12 _ _ h in
    let room = room_passed n (numbers_for order) (length out) (length refusals) (row_passed 13 _ [] low.1).0 in
    record { low = ltb-false 4 order low.0; places = room.0; numbers = room.1 }

-- orders that are the same at each parameter leave the same
pub asked_as : (ts : List Float) (order : ℕ) {f g : Float → List Float} → ((t : Float) → f t ≡ g t)
    → {out out' : List Float} {refusals refusals' : List ℕ} {n : ℕ} → Asked (numbers_for order) (each_of f ts order) out refusals n out' refusals'
    → Asked (numbers_for order) (each_of g ts order) out refusals n out' refusals'
asked_as ts order {f} {g} e {out} {out'} {refusals} {refusals'} {n} a =
    subst (λ (h : Float → List Float). Asked (numbers_for order) (each_of h ts order) out refusals n out' refusals') (λ i t. e t i) a

-- each parameter by itself
abbrev alone : Offered → List Float → ℕ → ℕ → List Float → Outcome
alone who ts order k place = point_answer who (at1 plain ts k) order place

-- as the count finds its span
abbrev pub found_orders : Offered → ℕ → Float → List Float
found_orders who order t = orders_of plain (found who.shape) who.shape t order

module _ (who : Offered) (ts : List Float) (order : ℕ) (out : List Float) (refusals : List ℕ) where
  abbrev rows : List Row
  rows = call_rows (length ts) order (length out) (length refusals)

  -- a rule of the curve applies
  pub points_refused : {r : Verdict} → r ≡ first_of who.rules → (r.number ≡ 0 → ⊥) → many r out refusals ≡ points_answer who ts order out refusals
  unfolding points_answer
  points_refused e h =
      many_refused (numbers_for order) (alone who ts order) out refusals (who.rules ++ rows) (length ts)
      (e ∙ sym (first_decides who.rules rows (λ z. h (number_of e ∙ z)))) h

  module _ (s : Sound who) (p : Passed who.rules) {r : Verdict} (e : r ≡ first_of (call_rows (length ts) order (length out) (length refusals))) where
    first : r ≡ first_of (who.rules ++ rows)
    first = e ∙ sym (second_decides who.rules rows s.counted p)

    -- a row of the call does
    pub call_refused : (r.number ≡ 0 → ⊥) → many r out refusals ≡ points_answer who ts order out refusals
    unfolding points_answer
    call_refused h = many_refused (numbers_for order) (alone who ts order) out refusals (who.rules ++ rows) (length ts) first h

    each_is : (k : ℕ) (place : List Float) → each_of (found_orders who order) ts order k place ≡ alone who ts order k place
    each_is k place = point_answered who s p (at1 plain ts k) order place refl refl

    -- none does
    pub points-answered : r.number ≡ 0 → {out' : List Float} {refusals' : List ℕ}
        → Asked (numbers_for order) (each_of (found_orders who order) ts order) out refusals (length ts) out' refusals'
        → many r out' refusals' ≡ points_answer who ts order out refusals
    unfolding points_answer
    points-answered z {out'} {refusals'} a =
        many-answered (numbers_for order) (alone who ts order) out refusals (who.rules ++ rows) (length ts) first (number_of (sym first) ∙ z)
        (subst (λ (each : ℕ → List Float → Outcome). Asked (numbers_for order) each out refusals (length ts) out' refusals') (λ i k place. each_is k place i) a)

  -- ---- demand 3

  abbrev Promised : Verdict → List Float → List ℕ → Type 0
  Promised r out' refusals' = record {
    answer : many r out' refusals' ≡ points_answer who ts order out refusals;
    hull : EachInItsHull who ts order r out' refusals';
    never : NoneRefused who ts order out r refusals';
  }

  -- a refused call has no point
  pub refused_points : {r : Verdict} {out' : List Float} {refusals' : List ℕ} → (r.number ≡ 0 → ⊥)
      → many r out' refusals' ≡ points_answer who ts order out refusals → Promised r out' refusals'
  refused_points h a = record { answer = a; hull = λ z. absurd (h (number_of z)); never = λ z. absurd (h (number_of z)) }

  module _ (s : Sound who) {r : Verdict} {out' : List Float} {refusals' : List ℕ} (a : many r out' refusals' ≡ points_answer who ts order out refusals) where
    all_pass : r ≡ none → Passed (who.rules ++ rows)
    unfolding points_answer answering_many
    all_pass z = ap (λ (m : Many). m.refusal.number) (sym a) ∙ number_of z

    keeps : r ≡ none → Keeps (alone who ts order)
    keeps z k place =
        let p = (both_pass who.rules rows s.counted (all_pass z)).0 in
        ap (λ (o : Outcome). length o.out) (sym (point_answered who s p (at1 plain ts k) order place refl refl))
        ∙ keeps_each (found_orders who order) ts order k place

    entry : (z : r ≡ none) (k : ℕ) → k < length ts
        → outcome (refusal (get_or refusals' k 0)) (place_of (numbers_for order) k out') ≡ alone who ts order k (place_of (numbers_for order) k out)
    unfolding points_answer
    entry z k h =
        let fits = call_fits (length ts) order out refusals (both_pass who.rules rows s.counted (all_pass z)).1 in
        asked_alone (numbers_for order) (alone who ts order) out refusals (length ts) fits.places (keeps z) (who.rules ++ rows) a z k h

    pub points_promised : ((k : ℕ) → k < length ts → Doubles who.shape (at1 plain ts k)) → Promised r out' refusals'
    points_promised d = record {
      answer = a;
      hull = λ z k h. in_hull who s (at1 plain ts k) (d k h) order (place_of (numbers_for order) k out) (entry z k h);
      never = λ z k h. never_refused who s (at1 plain ts k) (d k h) order (place_of (numbers_for order) k out) (entry z k h);
    }
