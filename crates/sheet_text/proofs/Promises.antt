-- Demand 3 (docs/RULES.md) of a sheet's lines, from what the evaluation promises; and where each line stands in the answered text. Assumes nothing.
use mathlib.Core.Path.{◌≡◌, refl, sym, ap, ◌∙◌}
use mathlib.Core.Bool.{true, false, true≢false}
use mathlib.Core.List.{List, ◌++◌, append_assoc}
use Prim.Native.Nat.{ℕ, suc, ◌<◌}
use native.Mathlib.Omega.{arith}
use lib.ListN.{take, drop, replicate}
use lib.Seq.{split_at}
use lib.Dec.{lit≤}
use lib.Ieee.{Float, nan}
use Rattle.meaning.specs.Scalar.{plain, zero64}
use Rattle.meaning.specs.Table.{at1}
use Rattle.refusal.specs.Refusals.{Verdict, refusal, none, first_of}
use Rattle.refusal.proofs.Rows.{number_of, passed_none}
use Rattle.outcome.specs.Outcome.{outcome}
use Rattle.curve.proofs.Recheck.{record_sound}
use Rattle.curve.specs.declared.Curve.{Curve}
use Rattle.curve.specs.Record.{by_record}
use Rattle.build.proofs.Doors.{build_accepted}
use Rattle.hull.specs.Promise.{InItsHull, NeverRefused}
use Rattle.sheet_read.specs.Grammar.{Sheet, sheet_of}
use Rattle.sheet_text.specs.Printed.{refusal_text, head_text, point_text}
use Rattle.sheet_text.specs.Curves.{line_answer, line_text, lines_text}
use Rattle.sheet_text.specs.Answer.{points_of, knots_of, given_of, parameters_of, sheet_build, sheet_text, answer_text}
use Rattle.sheet_text.specs.Promise.{is_point, LinePromise}
use Rattle.sheet_text.proofs.Front.{numbers-long}
use Rattle.sheet_text.proofs.Lines.{line_refused, line_point, lines_append, built_printed}

refusal_line : (r : Verdict) → is_point (refusal_text r) ≡ false
unfolding refusal_text
refusal_line r = refl

point_line : (x y : Float) → is_point (point_text x y) ≡ true
unfolding point_text
point_line x y = refl

module _ (c : Curve) (t : Float) {r : Verdict} {xy : List Float} (told : outcome r xy ≡ line_answer c t) (h : InItsHull (by_record c) t r xy)
    (n : NeverRefused (by_record c) t 0 (replicate 2 zero64) r) where
  pub refused_promise : (r.number ≡ 0 → ⊥) → LinePromise c t
  refused_promise z =
      record {
        hull = λ p i. absurd (true≢false (sym p ∙ ap is_point (line_refused c t told z) ∙ refusal_line r));
        never = λ a d. absurd (z (number_of (n a d refl (lit≤ tt))));
      }

  pub point_promise : r.number ≡ 0 → LinePromise c t
  point_promise z =
      record {
        hull = λ p i. record { x = at1 plain xy 0; y = at1 plain xy 1; says = line_point c t told z; hull = h (ap refusal z) i };
        never = λ a d. ap is_point (line_point c t told z) ∙ point_line (at1 plain xy 0) (at1 plain xy 1);
      }

-- ---- where the line of parameter k stands: after the head and the lines of those before it

module _ (s : List ℕ) (work : List Float) (formed : (sheet_of s).formed ≡ true) (accepted : (sheet_build s (sheet_of s) work).built.refusal ≡ none) (k : ℕ)
    (low : k < (sheet_of s).parameters.count) where
  abbrev ts : List Float
  ts = parameters_of s (sheet_of s)

  abbrev curve : Curve
  curve = (sheet_build s (sheet_of s) work).built.curve

  pub line_stands : answer_text s work ≡ (head_text curve.points curve.knot_count ++ lines_text curve (take k ts)) ++ (line_text curve (at1 plain ts k) ++ lines_text curve (drop (suc k) ts))
  unfolding answer_text sheet_text lines_text
  line_stands =
      let x = sheet_of s in
      let long = numbers-long s x.parameters.start x.parameters.count in
      let head = head_text curve.points curve.knot_count in
      let split = split_at ts k nan (omega arith) in
      rw formed
      (built_printed (sheet_build s x work).built ts (number_of accepted)
      ∙ ap (λ (l : List ℕ). head ++ l) (ap (lines_text curve) split ∙ lines_append curve (take k ts) _)
      ∙ sym (append_assoc head (lines_text curve (take k ts)) _))

-- ---- the curve of an accepted sheet passes its own rules, which is what `never` asks beside its bounds

pub curve_accepted : (s : List ℕ) (x : Sheet) (work : List Float) → (sheet_build s x work).built.refusal ≡ none
    → first_of (by_record (sheet_build s x work).built.curve).rules ≡ none
curve_accepted s x work e =
    passed_none _ (record_sound (sheet_build s x work).built.curve).counted (build_accepted x.form (points_of s x) (given_of s x) (knots_of s x) work refl (number_of e))
