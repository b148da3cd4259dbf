-- Many points in one call: one search in its place, the loop over them, and the whole call for a curve offered in whatever way. Assumes nothing.
use mathlib.Core.Path.{◌≡◌, refl, sym, ap, ◌∙◌, subst}
use mathlib.Core.Bool.{not}
use mathlib.Core.List.{List, [], ◌∷◌, ◌++◌}
use Prim.Native.Nat.{ℕ, suc, ◌+◌, ◌*◌, ◌%◌, ◌≤◌, ◌<◌}
use native.Mathlib.Nat.{mul-one, suc-ne-zero}
use native.Mathlib.Omega.{arith}
use borrow.Author.Tests.{eq-eqb, ne_eqb}
use lib.Dec.{T}
use lib.ListN.{length, get_or, set, take, drop}
use lib.Seq.{set_split, drop-cons}
use lib.Ieee.{Float, nan}
use Rattle.meaning.specs.Scalar.{plain}
use Rattle.meaning.specs.Table.{at1}
use Rattle.meaning.specs.Search.{listed}
use Rattle.meaning.proofs.Filling.{length-listed}
use Rattle.refusal.specs.Refusals.{Verdict, Row, refusal, first_of}
use Rattle.refusal.proofs.Rows.{Passed, number_of, numbered, row-applies, row-passes, row_passed, first_decides, second_decides}
use Rattle.outcome.specs.Outcome.{Outcome}
use Rattle.outcome.specs.Told.{Values}
use Rattle.shape.specs.Shape.{Shape, points_in}
use Rattle.shape.specs.Offered.{Offered}
use Rattle.shape.specs.Trusting.{trusting}
use Rattle.many.specs.Many.{place_of, room_row, many}
use Rattle.many.proofs.Rooms.{room_passed}
use Rattle.many.proofs.Asked.{Keeps, Asked, asked-first, asked-long, asked_next, many_refused, many-answered}
use Rattle.closest.specs.Search.{closest_answer}
use Rattle.closest.proofs.Past.{search_past}
use Rattle.closest.specs.Many.{point_at, handed_to, each_found, many_rules, closest_many, Room}

-- ---- one place

-- an answer leaves a place as long as it was
pub keeps_each : (who : Offered) (points : List Float) → Keeps (each_found who points)
keeps_each who points k place = length-listed 0 (length place) _

module _ (out : List Float) (k : ℕ) (h : k < length out) where
  one_place : place_of 1 k out ≡ at1 plain out k ∷ []
  one_place = ap (λ (m : ℕ). take 1 (drop m out)) (mul-one k) ∙ ap (take 1) (drop-cons out k nan h)

  -- what was found, set in its place, is what the question leaves of it
  pub handed_back : (v : Values) → set out k (get_or v.values 0 (at1 plain out k))
      ≡ take (k * 1) out ++ ((handed_to v (place_of 1 k out)).out ++ drop (k * 1 + 1) out)
  unfolding listed
  handed_back v =
      let x = get_or v.values 0 (at1 plain out k) in
      let at : k ≡ k * 1 = sym (mul-one k) in
      let next : suc k ≡ k * 1 + 1 = omega arith in
      let left : (x ∷ []) ≡ (handed_to v (place_of 1 k out)).out = ap (λ (l : List Float). (handed_to v l).out) (sym one_place) in
      set_split out k x h ∙ (λ i. take (at i) out ++ (left i ++ drop (next i) out))

-- ---- the loop

-- before turn k
pub record Turned (who : Offered) (points out : List Float) (refusals : List ℕ) (n k : ℕ) (out' : List Float) (refusals' : List ℕ) : Type 0 where
  pub all : n ≡ points_in points
  pub low : k ≤ n
  pub long : length out' ≡ length out
  pub numbers : length refusals' ≡ length refusals
  pub asked : Asked 1 (each_found who points) out refusals k out' refusals'

module _ {who : Offered} {points out : List Float} {refusals : List ℕ} where
  pub turned_first : {n : ℕ} → n ≡ points_in points → Turned who points out refusals n 0 out refusals
  turned_first e = record { all = e; low = omega arith; long = refl; numbers = refl; asked = asked-first 1 (each_found who points) out refusals }

  module _ (room : Room points out refusals) {n k : ℕ} {out' : List Float} {refusals' : List ℕ} (a : Turned who points out refusals n k out' refusals') where
    places : points_in points * 1 ≤ length out
    places = rw (mul-one (points_in points)) room.places

    module _ (h : k < n) where
      pub turned_place : k < length out'
      turned_place = omega (arith, a.all, a.long, room.places)

      pub turned_next : (v : Values) → v ≡ closest_answer who (point_at points k) → {next : List Float} {told : List ℕ}
          → (next ≡ set out' k (get_or v.values 0 (at1 plain out' k))) × (told ≡ set refusals' k v.refusal.number)
          → Turned who points out refusals n (k + 1) next told
      turned_next v e c =
          let place = place_of 1 k out' in
          let each = each_found who points in
          let keeps = keeps_each who points in
          let asked =
          asked_next 1 each out refusals (points_in points) places keeps room.numbers a.asked (omega (arith, a.all)) (handed_to v place)
          (ap (λ (w : Values). handed_to w place) e) (c.0 ∙ handed_back out' k turned_place v) c.1 in
          let lengths = asked-long 1 each out refusals (points_in points) places keeps room.numbers asked (omega (arith, a.all)) in
          record { all = a.all; low = omega arith; long = lengths.0; numbers = lengths.1; asked = asked }

-- a curve of the same shape
pub asked_of : (points : List Float) {c d : Shape Float} → c ≡ d → {out out' : List Float} {refusals refusals' : List ℕ} {n : ℕ}
    → Asked 1 (each_found (trusting c.n c.xs c.ys c.knots) points) out refusals n out' refusals'
    → Asked 1 (each_found (trusting d.n d.xs d.ys d.knots) points) out refusals n out' refusals'
asked_of points e {out} {out'} {refusals} {refusals'} {n} a =
    subst (λ (s : Shape Float). Asked 1 (each_found (trusting s.n s.xs s.ys s.knots) points) out refusals n out' refusals') e a

-- ---- the call

module _ (who : Offered) (t : T (numbered who.rules)) (points out : List Float) (refusals : List ℕ) where
  abbrev rules : List Row
  rules = many_rules who points (length out) (length refusals)

  refused : {r : Verdict} → r ≡ first_of (many_rules who points (length out) (length refusals)) → (r.number ≡ 0 → ⊥) → many r out refusals ≡ closest_many who points out refusals
  unfolding closest_many
  refused e h = many_refused 1 (each_found who points) out refusals rules (points_in points) e h

  pub odd_points : (length points % 2 ≡ 0 → ⊥) → {r : Verdict} → r ≡ refusal 1 → many r out refusals ≡ closest_many who points out refusals
  odd_points h e = refused (e ∙ sym (row-applies _ _ (ap not (ne_eqb (length points % 2) 0 h)))) (λ z. suc-ne-zero 0 (number_of (sym e) ∙ z))

  module _ (even : length points % 2 ≡ 0) where
    abbrev room : List Row
    room = room_row (points_in points) 1 (length out) (length refusals) ∷ []

    later : first_of (many_rules who points (length out) (length refusals)) ≡ first_of (who.rules ++ (room_row (points_in points) 1 (length out) (length refusals) ∷ []))
    later = row-passes _ _ (ap not (eq-eqb (length points % 2) 0 even))

    pub curve_refused : {r : Verdict} → r ≡ first_of who.rules → (r.number ≡ 0 → ⊥) → many r out refusals ≡ closest_many who points out refusals
    curve_refused e h = refused (e ∙ sym (later ∙ first_decides who.rules room (λ z. h (number_of e ∙ z)))) h

    module _ (p : Passed who.rules) {r : Verdict} (e : r ≡ first_of (room_row (points_in points) 1 (length out) (length refusals) ∷ [])) where
      first : r ≡ first_of (many_rules who points (length out) (length refusals))
      first = e ∙ sym (later ∙ second_decides who.rules room t p)

      pub room_refused : (r.number ≡ 0 → ⊥) → many r out refusals ≡ closest_many who points out refusals
      room_refused h = refused first h

      pub room_for : r.number ≡ 0 → Room points out refusals
      room_for z =
          let f = room_passed (points_in points) 1 (length out) (length refusals) (row_passed 13 _ [] (number_of (sym e) ∙ z)).0 in
          record { places = rw (mul-one (points_in points)) at f.0; numbers = f.1 }

      -- each search past the rules is the question by itself
      each_is : (k : ℕ) (place : List Float) → let c = who.shape in
          each_found (trusting c.n c.xs c.ys c.knots) points k place ≡ each_found who points k place
      each_is k place = ap (λ (v : Values). handed_to v place) (search_past who t p (point_at points k))

      pub all_found : r.number ≡ 0 → {out' : List Float} {refusals' : List ℕ} → let c = who.shape in
          Asked 1 (each_found (trusting c.n c.xs c.ys c.knots) points) out refusals (points_in points) out' refusals'
          → many r out' refusals' ≡ closest_many who points out refusals
      unfolding closest_many
      all_found z {out'} {refusals'} a =
          many-answered 1 (each_found who points) out refusals rules (points_in points) first (number_of (sym first) ∙ z)
          (subst (λ (each : ℕ → List Float → Outcome). Asked 1 each out refusals (points_in points) out' refusals') (λ i k place. each_is k place i) a)
