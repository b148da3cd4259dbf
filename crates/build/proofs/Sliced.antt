-- A build answered in slices: where a rule applies nothing is written, else all is. Assumes nothing.
use mathlib.Core.Path.{◌≡◌, refl, ap, ◌∙◌}
use mathlib.Core.Bool.{Bool, true, false, ◌||◌, cond}
use mathlib.Core.List.{List}
use Prim.Native.Nat.{ℕ, ◌+◌, ◌*◌, ◌≤◌, zero-le}
use native.Mathlib.Omega.{arith}
use borrow.Author.Tests.{ltb-false, eqb-true}
use lib.Dec.{ltb}
use lib.ListN.{length, take, length-take}
use lib.Ieee.{Float}
use Rattle.meaning.proofs.Filling.{length-listed}
use Rattle.meaning.proofs.Tests.{or_left, or_right}
use Rattle.refusal.specs.Refusals.{Row, passes}
use Rattle.refusal.proofs.Rows.{Passed, number_of}
use Rattle.outcome.specs.Outcome.{answering}
use Rattle.outcome.proofs.Doors.{passes_false}
use Rattle.knots.specs.declared.Form.{Form}
use Rattle.knots.specs.declared.Form.TheVariants.{Control, Fit}
use Rattle.knots.proofs.Accepted.{Accepted}
use Rattle.buffer.specs.Pasted.{pasted}
use Rattle.curve.specs.declared.Curve.{Curve}
use Rattle.curve.specs.Record.{empty_curve}
use Rattle.curve.specs.Build.{Built, building}
use Rattle.curve.proofs.Recheck.{record_sound}
use Rattle.curve.proofs.Put.{put_built}
use Rattle.curve.proofs.Builds.{built-refusal, build_parts}
use Rattle.fit.specs.Fit.{curve_through, Making, making}
use Rattle.build.specs.Build.{curve_of, controls_in, lacks_work, rules_of, built_by, in_turn, lacks_room, sliced, built_into}
use Rattle.build.proofs.Doors.{rechecked}

length-in_turn : (n : ℕ) (xs ys : List Float) → length (in_turn n xs ys) ≡ 2 * n
unfolding in_turn
length-in_turn n xs ys = length-listed 0 (2 * n) _

-- the counts of the curve are those that room is asked for
points_are : (form : Form) (coords : List Float) (given : Bool) (ks : List Float) → (curve_of form coords given ks).points ≡ controls_in form coords
unfolding curve_through
points_are Control coords given ks = refl
points_are Fit coords given ks = refl

knots_are : (form : Form) (coords : List Float) (given : Bool) (ks : List Float) → (curve_of form coords given ks).knot_count ≡ controls_in form coords + 4
unfolding curve_through
knots_are Control coords given ks = refl
knots_are Fit coords given ks = refl

-- What is built is the curve or, where a rule applies, empty: then nothing is put. Where none applies there is room.
module _ (form : Form) (coords : List Float) (given : Bool) (ks work control out : List Float) where
  abbrev short : Bool
  short = lacks_work form coords work || lacks_room form coords control out

  abbrev rules : List Row
  rules = rules_of form coords given ks short

  abbrev curve : Curve
  curve = curve_of form coords given ks

  abbrev m : ℕ
  m = controls_in form coords

  module _ (passed : Passed rules) where
    sound : Accepted (take (curve.points + 4) curve.knots) curve.points
    sound = (record_sound curve).knots (rechecked form coords given ks short passed)

    stored : m + 4 ≤ length curve.knots
    stored = omega (arith, sound.sound.long, length-take (curve.points + 4) curve.knots, points_are form coords given ks)

    room : lacks_room form coords control out ≡ false
    room = or_right (lacks_work form coords work) _ (build_parts form coords given ks short _ passed).1

  module _ {work' : List Float} {b : Built} {lacks : Bool} (told : lacks ≡ lacks_room form coords control out)
      (answer : making b work' ≡ built_by form coords given ks (lacks_work form coords work || lacks) work) where
    whole : making b work' ≡ built_by form coords given ks short work
    whole = answer ∙ ap (λ (t : Bool). built_by form coords given ks (lacks_work form coords work || t) work) told

    is_built : b ≡ building rules curve
    is_built = ap (λ (x : Making). x.built) whole

    pub points-few : b.curve.points ≤ 66
    unfolding building
    points-few = rw is_built (by (passes rules) refl)
      where
        by : (t : Bool) → passes rules ≡ t → (cond t curve empty_curve).points ≤ 66
        by true h = (sound (eqb-true _ _ h)).room
        by false h = zero-le

    pub in_slices_lem : {control' out' : List Float}
        → control' ≡ pasted (in_turn b.curve.points b.curve.xs b.curve.ys) (2 * b.curve.points) control 0
        → out' ≡ pasted b.curve.knots b.curve.knot_count out 0
        → sliced b.refusal control' out' work' ≡ built_into form coords given ks work control out
    in_slices_lem p k =
        let are = points_are form coords given ks in
        let points =
        put_built rules curve is_built (λ d. in_turn d.points d.xs d.ys) (λ d. 2 * d.points) control refl
        (ap (λ (n : ℕ). in_turn n curve.xs curve.ys) are) (ap (λ (n : ℕ). 2 * n) are)
        (λ z. (omega (arith, length-in_turn m curve.xs curve.ys), ltb-false _ _ (or_left _ _ (room z)))) p in
        let knots =
        put_built rules curve is_built (λ d. d.knots) (λ d. d.knot_count) out refl refl (knots_are form coords given ks)
        (λ z. (stored z, ltb-false _ _ (or_right (ltb (length control) (2 * m)) _ (room z)))) k in
        λ i. sliced (built-refusal rules curve is_built i) (points i) (knots i) (whole i).work

    pub refused_into : (b.refusal.number ≡ 0 → ⊥) → sliced b.refusal control out work' ≡ built_into form coords given ks work control out
    unfolding answering
    refused_into h =
        let told = built-refusal rules curve is_built in
        rw (passes_false rules (λ z. h (number_of told ∙ z))) (λ i. sliced (told i) control out (whole i).work)
