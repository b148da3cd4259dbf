-- A work buffer of 4,488 doubles is short for no sheet: refusal 14 is met by none. Assumes nothing.
use mathlib.Core.Path.{◌≡◌, refl, sym, ap, ◌∙◌}
use mathlib.Core.Bool.{Bool, false, cond}
use mathlib.Core.List.{List}
use Prim.Native.Nat.{ℕ, ◌≤◌, zero-le}
use native.Mathlib.Nat.{le_trans}
use borrow.Author.Tests.{le-ltb, eqb-true, eqb-false}
use lib.ListN.{length}
use lib.Ieee.{Float}
use Rattle.meaning.proofs.Tests.{by_two}
use Rattle.refusal.specs.Refusals.{Row, first_of, passes, refusal}
use Rattle.knots.specs.declared.Form.{Form}
use Rattle.knots.specs.declared.Form.TheVariants.{Control, Fit}
use Rattle.shape.specs.Rules.{handle_rules}
use Rattle.curve.specs.declared.Curve.{Curve}
use Rattle.curve.specs.Build.{Built, building}
use Rattle.curve.proofs.Builds.{handles_refused, room_refused}
use Rattle.fit.proofs.Asked.{fit_room, work-small}
use Rattle.build.specs.Build.{curve_of, lacks_work, rules_of}
use Rattle.sheet_read.specs.Grammar.{Sheet, sheet_of}
use Rattle.sheet_text.specs.Printed.{refusal_text}
use Rattle.sheet_text.specs.Curves.{built_text}
use Rattle.sheet_text.specs.Answer.{points_of, knots_of, given_of, parameters_of, sheet_build, sheet_text, answer_text}
use Rattle.sheet_rooms.specs.Reply.{reply_build, sheet_reply, reply_text}

-- long enough for any build that the rules before 14 let through
long_enough : (form : Form) (q : List Float) (given : Bool) (ks work : List Float) → 4488 ≤ length work
    → first_of (rules_of form q given ks (lacks_work form q work)) ≡ first_of (rules_of form q given ks false)
long_enough Control q given ks work h = ap (λ (b : Bool). first_of (rules_of Control q given ks b)) (le-ltb (length work) 0 zero-le)
long_enough Fit q given ks work h =
    by_two (passes (handle_rules Fit q given ks))
    (λ e.
    let room = fit_room q given ks (eqb-true _ 0 e) in
    ap (λ (b : Bool). first_of (rules_of Fit q given ks b)) (le-ltb (length work) _ (le_trans (work-small q room.1) h)))
    (λ e. let f = eqb-false (first_of (handle_rules Fit q given ks)).number 0 e in sym (decided (lacks_work Fit q work) f) ∙ decided false f)
  where
    decided : (short : Bool) → ((first_of (handle_rules Fit q given ks)).number ≡ 0 → ⊥) → first_of (handle_rules Fit q given ks) ≡ first_of (rules_of Fit q given ks short)
    decided short f = room_refused Fit q given ks short _ (handles_refused Fit q given ks short refl f) f

same_building : (a b : List Row) (c : Curve) → first_of a ≡ first_of b → building a c ≡ building b c
unfolding building
same_building a b c e = rw e

-- the answer is the one where no slice is short
module _ (work : List Float) (h : 4488 ≤ length work) where
  pub build_is : (s : List ℕ) (x : Sheet) → (sheet_build s x work).built ≡ reply_build s x
  build_is s x =
      let q = points_of s x in
      let given = given_of s x in
      let ks = knots_of s x in
      same_building _ _ (curve_of x.form q given ks) (long_enough x.form q given ks work h)

  sheet_is : (s : List ℕ) (x : Sheet) → sheet_text s x work ≡ sheet_reply s x
  unfolding sheet_text sheet_reply
  sheet_is s x =
      ap (λ (b : Built). built_text b (parameters_of s x)) (build_is s x)

  pub answer_is : (s : List ℕ) → answer_text s work ≡ reply_text s
  unfolding answer_text reply_text
  answer_is s = ap (λ (t : List ℕ). cond (sheet_of s).formed t (refusal_text (refusal 16))) (sheet_is s (sheet_of s))
