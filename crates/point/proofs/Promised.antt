-- Demand 3 (docs/RULES.md) from the equation of a call's outcome, for a curve offered in whatever way: of any refusal and any slice that the contract
-- allows, so of any body that meets it. Assumes nothing.
use mathlib.Core.Path.{◌≡◌, sym, ap, ◌∙◌}
use mathlib.Core.Bool.{true, false}
use mathlib.Core.List.{List, [], ◌++◌}
use Prim.Native.Nat.{ℕ, zero, suc, ◌+◌, ◌≤◌, ◌<◌, zero-le}
use native.Mathlib.Omega.{arith}
use borrow.Author.Tests.{ltb-false, le-ltb}
use lib.ListN.{length, get_or}
use lib.Seq.{get_or-take, paste, take-paste}
use lib.Ieee.{Float, nan}
use lib.Ieee.Scale.{finite}
use Rattle.meaning.specs.Scalar.{plain}
use Rattle.meaning.specs.Table.{at1}
use Rattle.refusal.specs.Refusals.{Verdict, Row, first_of}
use Rattle.refusal.proofs.Rows.{Passed, number_of, row_passed, second_decides, both_pass}
use Rattle.outcome.specs.Outcome.{some_wild, Outcome, outcome, answering}
use Rattle.outcome.proofs.Doors.{passes_true}
use Rattle.outcome.proofs.Wild.{each_finite}
use Rattle.shape.specs.Shape.{Shape}
use Rattle.shape.specs.Offered.{Offered}
use Rattle.shape.proofs.Sound.{Sound}
use Rattle.hull.specs.Asked.{InDomain}
use Rattle.hull.specs.Promise.{PointInHull, InItsHull, NeverRefused}
use Rattle.hull.proofs.Given.{Doubles, Coordinates, Within, within}
use Rattle.hull.proofs.Theorems.{ten, hull_point, point_passes}
use Rattle.point.specs.Point.{point_orders, numbers_for, point_rows, point_answer, tangent_numbers, tangent_rows, tangent_answer}

-- ---- the rows of a point, and of a point with its tangent

abbrev rows : Shape Float → Float → ℕ → List Float → List Row
rows c t order out = point_rows (point_orders c t order) t order out

record Tests (c : Shape Float) (t : Float) (order : ℕ) : Type 0 where
  low : order ≤ 4
  tame : some_wild (point_orders c t order) (numbers_for order) ≡ false

tests : (c : Shape Float) (t : Float) (order : ℕ) (out : List Float) → Passed (rows c t order out) → Tests c t order
tests c t order out h =
    let r13 = row_passed 12 _ _ (row_passed 11 _ _ h).1 in
    record { low = ltb-false 4 order r13.0; tame = (row_passed 14 _ [] (row_passed 13 _ _ r13.1).1).0 }

abbrev unit_rows : Shape Float → Float → List Float → List Row
unit_rows c t out = tangent_rows (tangent_numbers c t) t out

tangent_tame : (c : Shape Float) (t : Float) (out : List Float) → Passed (unit_rows c t out) → some_wild (tangent_numbers c t) 4 ≡ false
tangent_tame c t out h = (row_passed 14 _ [] (row_passed 13 _ _ (row_passed 11 _ _ h).1).1).0

-- the first m entries of a slice that m of some numbers are written to
written : (out numbers : List Float) (m j : ℕ) → m ≤ length numbers → j < m → at1 plain (paste out 0 numbers m) j ≡ at1 plain numbers j
written out numbers m j l h =
    sym (get_or-take (0 + m) (paste out 0 numbers m) j nan (omega arith))
    ∙ ap (λ (s : List Float). get_or s j nan) (take-paste out 0 numbers m zero-le (omega arith))
    ∙ get_or-take m numbers j nan h

two-fine : (c : Shape Float) (t : Float) → ((j : ℕ) → j < 4 → finite (at1 plain (tangent_numbers c t) j) ≡ true) → (j : ℕ) → j ≤ 1
    → finite (at1 plain (point_orders c t 1) j) ≡ true
unfolding tangent_numbers
two-fine c t f zero h = f 0 (omega arith)
two-fine c t f (suc zero) h = f 1 (omega arith)
two-fine c t f (suc (suc j)) h = absurd (omega arith)

-- ---- the promises

module _ (who : Offered) (s : Sound who) (t : Float) (d : Doubles who.shape t) where
  abbrev c : Shape Float
  c = who.shape

  module _ (passed : Passed who.rules) where
    coordinates_x : Coordinates c.n c.xs
    coordinates_x = record { doubles = d.xs; fine = s.xs passed }

    coordinates_y : Coordinates c.n c.ys
    coordinates_y = record { doubles = d.ys; fine = s.ys passed }

    placed : InDomain c t → Within c t
    placed i = within c t (s.knots passed) i d

    -- the first two numbers of the orders, where they are finite
    front : (order : ℕ) → order ≤ 4 → InDomain c t → ((j : ℕ) → j ≤ 1 → finite (at1 plain (point_orders c t order) j) ≡ true)
        → PointInHull c t (at1 plain (point_orders c t order) 0) (at1 plain (point_orders c t order) 1)
    front order l i f =
        let h = hull_point c t (s.knots passed) (placed i) order l coordinates_x coordinates_y (λ j g. f j (omega arith)) in
        record { x_in = h.0; y_in = h.1 }

  pub in_hull : (order : ℕ) (out : List Float) {out' : List Float} {r : Verdict} → outcome r out' ≡ point_answer who t order out → InItsHull who t r out'
  unfolding point_answer answering
  in_hull order out {out'} {r} a z i =
      let all = ap (λ (o : Outcome). o.refusal.number) (sym a) ∙ number_of z in
      let parts = both_pass who.rules (rows c t order out) s.counted all in
      let q = tests c t order out parts.1 in
      let w : out' ≡ paste out 0 (point_orders c t order) (numbers_for order) =
      ap (λ (o : Outcome). o.out) a ∙ rw (passes_true (who.rules ++ rows c t order out) all) in
      let l = ten c t (s.knots parts.0) (placed parts.0 i) order q.low in
      let m : numbers_for order ≤ length (point_orders c t order) = let g = q.low in omega arith in
      rw (w, written out (point_orders c t order) (numbers_for order) 0 m (omega arith), written out (point_orders c t order) (numbers_for order) 1 m (omega arith))
      (front parts.0 order q.low i (λ j h. each_finite (point_orders c t order) (numbers_for order) q.tame j (omega arith)))

  pub tangent_in_hull : (out : List Float) {out' : List Float} {r : Verdict} → outcome r out' ≡ tangent_answer who t out → InItsHull who t r out'
  unfolding tangent_answer answering tangent_numbers
  tangent_in_hull out {out'} {r} a z i =
      let all = ap (λ (o : Outcome). o.refusal.number) (sym a) ∙ number_of z in
      let parts = both_pass who.rules (unit_rows c t out) s.counted all in
      let w : out' ≡ paste out 0 (tangent_numbers c t) 4 = ap (λ (o : Outcome). o.out) a ∙ rw (passes_true (who.rules ++ unit_rows c t out) all) in
      let fine = each_finite (tangent_numbers c t) 4 (tangent_tame c t out parts.1) in
      rw (w, written out (tangent_numbers c t) 4 0 (omega arith) (omega arith), written out (tangent_numbers c t) 4 1 (omega arith) (omega arith))
      (front parts.0 1 (omega arith) i (two-fine c t fine))

  pub never_refused : (order : ℕ) (out : List Float) {out' : List Float} {r : Verdict} → outcome r out' ≡ point_answer who t order out
      → NeverRefused who t order out r
  unfolding point_answer answering first_of
  never_refused order out a z b alone room =
      let p = number_of z in
      let k = placed p b.domain in
      let tame : some_wild (point_orders c t 0) 2 ≡ false =
      point_passes c t (s.knots p) k 0 (omega arith) (coordinates_x p) (coordinates_y p) b.long b.modest_x b.modest_y in
      ap (λ (o : Outcome). o.refusal) a
      ∙ second_decides who.rules (rows c t order out) s.counted p
      ∙ rw alone (rw (k.number, le-ltb (length out) 2 room, tame))

  -- ---- with the answer, as the contracts have them

  pub point_promised : (order : ℕ) (out : List Float) {out' : List Float} {r : Verdict} → outcome r out' ≡ point_answer who t order out
      → record { answer : outcome r out' ≡ point_answer who t order out; hull : InItsHull who t r out'; never : NeverRefused who t order out r }
  point_promised order out a = record { answer = a; hull = in_hull order out a; never = never_refused order out a }

  pub tangent_promised : (out : List Float) {out' : List Float} {r : Verdict} → outcome r out' ≡ tangent_answer who t out
      → record { answer : outcome r out' ≡ tangent_answer who t out; hull : InItsHull who t r out' }
  tangent_promised out a = record { answer = a; hull = tangent_in_hull out a }

-- a curve that is refused is not accepted, and has no point
module _ (who : Offered) (t : Float) {out' : List Float} {r : Verdict} (e : r ≡ first_of who.rules) (z : r.number ≡ 0 → ⊥) where
  pub refused_point : (order : ℕ) (out : List Float) → outcome r out' ≡ point_answer who t order out
      → record { answer : outcome r out' ≡ point_answer who t order out; hull : InItsHull who t r out'; never : NeverRefused who t order out r }
  refused_point order out a = record { answer = a; hull = λ n i. absurd (z (number_of n)); never = λ n b l m. e ∙ n }

  pub refused_tangent : (out : List Float) → outcome r out' ≡ tangent_answer who t out
      → record { answer : outcome r out' ≡ tangent_answer who t out; hull : InItsHull who t r out' }
  refused_tangent out a = record { answer = a; hull = λ n i. absurd (z (number_of n)) }
