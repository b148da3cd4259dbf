-- What a build answers, from the tests that it makes one after the other. Assumes nothing.
use mathlib.Core.Path.{◌≡◌, sym, ap, ◌∙◌}
use mathlib.Core.Bool.{Bool, true, false, not}
use mathlib.Core.List.{List, [], ◌∷◌, ◌++◌}
use Prim.Native.Nat.{ℕ, suc}
use native.Mathlib.Nat.{suc-ne-zero}
use lib.Dec.{T}
use lib.Ieee.{Float}
use Rattle.std.specs.Prelude.{Result, Ok, Err, IsErr, IsErrAnd}
use Rattle.refusal.specs.declared.Refusal.{Refusal}
use Rattle.refusal.specs.Refusals.{verdict, Verdict, Row, row, first_of, refusal, none}
use Rattle.refusal.proofs.Rows.{handed_on, Passed, number_of, numbered, row-applies, row-passes, row_passed, no_rows, second_decides, first_decides, both_pass}
use Rattle.outcome.proofs.Doors.{passes_true, passes_false}
use Rattle.knots.specs.declared.Form.{Form}
use Rattle.knots.specs.Rules.{knot_rules}
use Rattle.shape.specs.Rules.{handle_rules}
use Rattle.shape.proofs.Handles.{numbered-handles}
use Rattle.curve.specs.declared.Curve.{Curve}
use Rattle.curve.specs.Record.{empty_curve}
use Rattle.curve.specs.Build.{build_of, Built, building, room_rules, build_rules}
use Rattle.curve.specs.Making.{last_rule}

abbrev pub unbuilt : Verdict → Built
unbuilt r = record { refusal = r; curve = empty_curve }

abbrev pub made : Verdict → Curve → Built
made r c = record { refusal = r; curve = c }

-- what `?` hands on of an answer: its refusal, without a curve
pub handed_build : {A : Type 0} {x : Result A Refusal} {r : Refusal} → x ≡ Err r → (y : Result Curve Refusal) → IsErr y × IsErrAnd y (λ s. s ≡ r)
    → build_of y ≡ unbuilt (verdict x)
handed_build e (Ok b) h = absurd h.1
handed_build e (Err s) h = ap unbuilt (handed_on {B = Curve} e (Err s) h)

module _ (rules : List Row) (c : Curve) where
  -- a rule applies, and none does
  pub built_refused : {r : Verdict} → r ≡ first_of rules → (r.number ≡ 0 → ⊥) → unbuilt r ≡ building rules c
  unfolding building
  built_refused e h = rw (passes_false rules (λ z. h (number_of e ∙ z))) (ap unbuilt e)

  pub built_made : {r : Verdict} → r ≡ first_of rules → r.number ≡ 0 → made r c ≡ building rules c
  unfolding building
  built_made e z = rw (passes_true rules (number_of (sym e) ∙ z)) (ap (λ (x : Verdict). made x c) e)

  -- what was built has the refusal of its rules; it is empty where one applies
  pub built-refusal : {b : Built} → b ≡ building rules c → b.refusal ≡ first_of rules
  unfolding building
  built-refusal e = ap (λ (x : Built). x.refusal) e

  pub built_empty : {b : Built} → b ≡ building rules c → (b.refusal.number ≡ 0 → ⊥) → b ≡ unbuilt b.refusal
  built_empty {b} e h = e ∙ sym (built_refused (built-refusal e) h)

  -- so where a build is no refusal, it is the curve, and its rules let it pass
  pub built_passed : {b : Built} → b ≡ building rules c → b.refusal.number ≡ 0 → Passed rules
  built_passed e z = number_of (sym (built-refusal e)) ∙ z

  pub built_curve : {b : Built} → b ≡ building rules c → b.refusal.number ≡ 0 → b.curve ≡ c
  unfolding building
  built_curve e z = ap (λ (x : Built). x.curve) e ∙ rw (passes_true rules (built_passed e z))

-- an equation of what is built as a record, so that a law finds the rules and the curve in it
pub record Makes (rules : List Row) (c : Curve) (b : Built) : Type 0 where
  pub is : b ≡ building rules c

module _ {c : Curve} where
  pub makes : {rules : List Row} {b : Built} → Makes rules c b → b ≡ building rules c
  makes a = a.is

  -- rules that say the same
  same_making : {a b : List Row} {x : Built} → first_of b ≡ first_of a → Makes a c x → Makes b c x
  unfolding building
  same_making e m = record { is = rw e m.is }

  -- a row applies, and one does not
  pub stop_made : (n : ℕ) {b : Bool} {rs : List Row} {x : Built} → x ≡ unbuilt (refusal (suc n)) → b ≡ true → Makes (row (suc n) b ∷ rs) c x
  stop_made n {b} {rs} e h = record { is = e ∙ built_refused _ c (sym (row-applies (row (suc n) b) rs h)) (suc-ne-zero n) }

  pub pass_made : (n : ℕ) {b : Bool} {rs : List Row} {x : Built} → b ≡ false → Makes rs c x → Makes (row n b ∷ rs) c x
  pass_made n {b} {rs} h m = same_making (row-passes (row n b) rs h) m

  -- no row is left
  pub done_made : {r : Verdict} → r ≡ none → Makes [] c (made r c)
  done_made e = record { is = built_made [] c (e ∙ sym no_rows) (number_of e) }

  -- other rules come first
  pub refused_made : (rules rs : List Row) {r : Verdict} {x : Built} → r ≡ first_of rules → (r.number ≡ 0 → ⊥) → x ≡ unbuilt r → Makes (rules ++ rs) c x
  refused_made rules rs e h q = record { is = q ∙ built_refused _ c (e ∙ sym (first_decides rules rs (λ z. h (number_of e ∙ z)))) h }

  pub after_made : (rules : List Row) {rs : List Row} {x : Built} → T (numbered rules) → Passed rules → Makes rs c x → Makes (rules ++ rs) c x
  after_made rules {rs} t z m = same_making (second_decides rules rs t z) m

-- ---- the rules of a build, from its tests

pub numbered-room : (form : Form) (coords : List Float) (given : Bool) (ks : List Float) (short : Bool) → T (numbered (room_rules form coords given ks short))
unfolding handle_rules knot_rules
numbered-room form coords given ks short = tt

module _ (form : Form) (coords : List Float) (given : Bool) (ks : List Float) (short fine : Bool) where
  -- one of 1 to 14 applies
  pub room_refused : {r : Verdict} → r ≡ first_of (room_rules form coords given ks short) → (r.number ≡ 0 → ⊥) → r ≡ first_of (build_rules form coords given ks short fine)
  unfolding build_rules
  room_refused e h = e ∙ sym (first_decides (room_rules form coords given ks short) _ (λ z. h (number_of e ∙ z)))

  -- none of them does
  pub build_left : (c : Curve) {b : Built} → Passed (room_rules form coords given ks short) → b ≡ building (last_rule fine) c
      → b ≡ building (build_rules form coords given ks short fine) c
  unfolding build_rules
  build_left c z e = makes (after_made (room_rules form coords given ks short) (numbered-room form coords given ks short) z (record { is = e }))

-- the rules 1 to 14
module _ (form : Form) (coords : List Float) (given : Bool) (ks : List Float) (short : Bool) {r : Verdict} (known : r ≡ first_of (handle_rules form coords given ks)) where
  pub handles_refused : (r.number ≡ 0 → ⊥) → r ≡ first_of (room_rules form coords given ks short)
  handles_refused h = known ∙ sym (first_decides _ _ (λ z. h (number_of known ∙ z)))

  module _ (passed : r.number ≡ 0) where
    room-left : first_of (room_rules form coords given ks short) ≡ first_of (row 14 short ∷ [])
    room-left = second_decides (handle_rules form coords given ks) (row 14 short ∷ []) (numbered-handles form coords given ks) (number_of (sym known) ∙ passed)

    pub too_short_lem : short ≡ true → refusal 14 ≡ first_of (room_rules form coords given ks short)
    too_short_lem h = sym (room-left ∙ row-applies (row 14 short) [] h)

    pub long_enough : short ≡ false → Passed (room_rules form coords given ks short)
    long_enough h = number_of (room-left ∙ row-passes (row 14 short) [] h ∙ no_rows)

-- what passes them all
pub build_parts : (form : Form) (coords : List Float) (given : Bool) (ks : List Float) (short fine : Bool) → Passed (build_rules form coords given ks short fine)
    → Passed (handle_rules form coords given ks) × (short ≡ false) × (not fine ≡ false)
unfolding build_rules
build_parts form coords given ks short fine h =
    let all = both_pass (room_rules form coords given ks short) _ (numbered-room form coords given ks short) h in
    let room = both_pass (handle_rules form coords given ks) _ (numbered-handles form coords given ks) all.0 in
    (room.0, (row_passed 13 _ [] room.1).0, (row_passed 14 _ [] all.1).0)
