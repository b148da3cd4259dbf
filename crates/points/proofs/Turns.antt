-- One parameter of many: that its place stays as long as it was, and a turn of the loop over them. Assumes nothing.
use mathlib.Core.Path.{◌≡◌, refl, ap, ◌∙◌}
use mathlib.Core.List.{List, [], ◌++◌}
use Prim.Native.Nat.{ℕ, ◌+◌, ◌*◌, ◌≤◌, ◌<◌, zero-le}
use native.Mathlib.Omega.{arith}
use borrow.Author.Tests.{eqb-true, ltb-false}
use lib.ListN.{length, set, take, drop}
use lib.Seq.{length-paste, drop-drop}
use lib.Ieee.{Float}
use Rattle.meaning.specs.Scalar.{plain}
use Rattle.meaning.specs.Table.{at1}
use Rattle.meaning.proofs.Tests.{by_two}
use Rattle.refusal.specs.Refusals.{Verdict, first_of, passes}
use Rattle.refusal.proofs.Rows.{row_passed}
use Rattle.outcome.specs.Outcome.{outcome, answering}
use Rattle.outcome.proofs.Wild.{tame_long}
use Rattle.many.specs.Many.{place_of}
use Rattle.many.proofs.Asked.{Keeps, Asked, asked-first, asked-long, asked_next}
use Rattle.point.specs.Point.{numbers_for, point_rows}
use Rattle.points.specs.Turn.{of_orders, each_of, Fits}

-- a place stays as long as it was
pub keeps_place : (numbers : List Float) (t : Float) (order : ℕ) (place : List Float) → length (of_orders numbers t order place).out ≡ length place
unfolding answering
keeps_place numbers t order place =
    let rows = point_rows numbers t order place in
    by_two (passes rows)
    (λ h.
    let last = (row_passed 12 _ _ (row_passed 11 _ _ (eqb-true (first_of rows).number 0 h)).1).1 in
    let room = row_passed 13 _ _ last in
    let long : numbers_for order ≤ length place = ltb-false (length place) (numbers_for order) room.0 in
    rw h (length-paste place 0 numbers (numbers_for order) (omega arith)
    (tame_long numbers (numbers_for order) (row_passed 14 _ [] room.1).0)))
    (λ h. rw h refl)

-- the slices before turn k of the loop over the parameters: what it keeps
pub record Turned (orders : Float → List Float) (ts : List Float) (order : ℕ) (out : List Float) (refusals : List ℕ) (n k : ℕ) (out' : List Float)
    (refusals' : List ℕ) : Type 0 where
  pub all : n ≡ length ts
  pub low : k ≤ n
  pub long : length out' ≡ length out
  pub numbers : length refusals' ≡ length refusals
  pub asked : Asked (numbers_for order) (each_of orders ts order) out refusals k out' refusals'

pub keeps_each : (orders : Float → List Float) (ts : List Float) (order : ℕ) → Keeps (each_of orders ts order)
keeps_each orders ts order k place = keeps_place (orders (at1 plain ts k)) (at1 plain ts k) order place

module _ {orders : Float → List Float} {ts : List Float} {order : ℕ} {out : List Float} {refusals : List ℕ} where
  pub turned_first : {n : ℕ} → n ≡ length ts → Turned orders ts order out refusals n 0 out refusals
  turned_first e =
      record { all = e; low = zero-le; long = refl; numbers = refl; asked = asked-first (numbers_for order) (each_of orders ts order) out refusals }

  module _ (f : Fits (length ts) order out refusals) {n k : ℕ} {out' : List Float} {refusals' : List ℕ}
      (a : Turned orders ts order out refusals n k out' refusals') (h : k < n) where
    -- m is how long a place is, as the loop computes it
    pub turned_next : {room filled : List Float} {r : Verdict} {m : ℕ} → room ≡ orders (at1 plain ts k) → m ≡ numbers_for order
        → outcome r filled ≡ of_orders room (at1 plain ts k) order (take m (drop (k * numbers_for order) out'))
        → Turned orders ts order out refusals n (k + 1) (take (k * numbers_for order) out' ++ (filled ++ drop m (drop (k * numbers_for order) out')))
        (set refusals' k r.number)
    turned_next {room} {filled} {r} {m} e w c =
        let place = place_of (numbers_for order) k out' in
        let each = each_of orders ts order in
        let keeps = keeps_each orders ts order in
        let left : outcome r filled ≡ each k place =
        c ∙ ap (λ (j : ℕ). of_orders room (at1 plain ts k) order (take j (drop (k * numbers_for order) out'))) w
        ∙ ap (λ (l : List Float). of_orders l (at1 plain ts k) order place) e in
        let next =
        ap (λ (l : List Float). take (k * numbers_for order) out' ++ (filled ++ l))
        (drop-drop m (k * numbers_for order) out' ∙ ap (λ (j : ℕ). drop (k * numbers_for order + j) out') w) in
        let asked =
        asked_next (numbers_for order) each out refusals (length ts) f.places keeps f.numbers a.asked (omega (arith, a.all)) (outcome r filled) left next refl in
        let lengths = asked-long (numbers_for order) each out refusals (length ts) f.places keeps f.numbers asked (omega (arith, a.all)) in
        record { all = a.all; low = omega arith; long = lengths.0; numbers = lengths.1; asked = asked }
