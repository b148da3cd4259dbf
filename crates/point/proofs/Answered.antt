-- From the rules of a curve and the numbers found by the count of knots to the answer, for a curve offered in whatever way. Assumes nothing.
use mathlib.Core.Path.{◌≡◌, ap, ◌∙◌}
use mathlib.Core.List.{List}
use Prim.Native.Nat.{ℕ}
use lib.Ieee.{Float}
use Rattle.meaning.specs.Scalar.{plain}
use Rattle.refusal.specs.Refusals.{Verdict, first_of}
use Rattle.refusal.proofs.Rows.{Passed}
use Rattle.span.proofs.Spans.{accepted_span}
use Rattle.outcome.specs.Outcome.{outcome, answering}
use Rattle.outcome.proofs.Doors.{leaves, refused, after}
use Rattle.shape.specs.Offered.{Offered}
use Rattle.shape.proofs.Sound.{Sound}
use Rattle.evaluate.specs.Point.{orders_of}
use Rattle.evaluate.specs.Piece.{found}
use Rattle.evaluate.proofs.Places.{same_span}
use Rattle.point.specs.Point.{point_orders, numbers_for, point_rows, point_answer, unit_in, tangent_numbers, tangent_rows, tangent_answer}

-- ---- a rule of the curve applies

module _ (who : Offered) (t : Float) (out : List Float) {r : Verdict} (e : r ≡ first_of who.rules) (z : r.number ≡ 0 → ⊥) where
  pub point_refused : (order : ℕ) → outcome r out ≡ point_answer who t order out
  unfolding point_answer
  point_refused order = leaves (refused _ _ e z)

  pub tangent_refused : outcome r out ≡ tangent_answer who t out
  unfolding tangent_answer
  tangent_refused = leaves (refused _ _ e z)

-- ---- none does

module _ (who : Offered) (s : Sound who) (p : Passed who.rules) (t : Float) where
  -- the orders, by the span of docs/RULES.md
  orders_are : (order : ℕ) → orders_of plain (found who.shape) who.shape t order ≡ point_orders who.shape t order
  orders_are order = same_span plain who.shape t order (λ x. accepted_span who.shape.knots who.shape.n x (s.knots p))

  pub point_answered : (order : ℕ) (out : List Float) {l out' : List Float} {r : Verdict} → l ≡ orders_of plain (found who.shape) who.shape t order
      → outcome r out' ≡ answering (point_rows l t order out) l (numbers_for order) out → outcome r out' ≡ point_answer who t order out
  unfolding point_answer
  point_answered order out e a =
      leaves
      (after who.rules s.counted p
      (record { is = a ∙ ap (λ (l : List Float). answering (point_rows l t order out) l (numbers_for order) out) (e ∙ orders_are order) }))

  pub tangent_answered : (out : List Float) {l out' : List Float} {r : Verdict} → l ≡ orders_of plain (found who.shape) who.shape t 1
      → outcome r out' ≡ answering (tangent_rows (unit_in l) t out) (unit_in l) 4 out → outcome r out' ≡ tangent_answer who t out
  unfolding tangent_answer tangent_numbers
  tangent_answered out e a =
      leaves
      (after who.rules s.counted p
      (record { is = a ∙ ap (λ (l : List Float). answering (tangent_rows (unit_in l) t out) (unit_in l) 4 out) (e ∙ orders_are 1) }))
