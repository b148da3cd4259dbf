-- The length of a curve as it is answered, summed or stored. Assumes nothing.
use mathlib.Core.Path.{◌≡◌, sym, ap, ◌∙◌}
use mathlib.Core.Bool.{true, false, not}
use mathlib.Core.List.{[], ◌∷◌}
use lib.Ieee.{Float}
use lib.Ieee.Scale.{finite}
use Rattle.std.proofs.Common.{Option, Some, None, IfSome, true≢false}
use Rattle.refusal.specs.Refusals.{Verdict, first_of, refusal, none}
use Rattle.refusal.proofs.Rows.{Passed}
use Rattle.outcome.specs.Told.{Values}
use Rattle.outcome.proofs.Doors.{untold, tells, left-told, refused_told, passed_told, after-told, stop_told, pass_told, done-told}
use Rattle.shape.specs.Offered.{Offered}
use Rattle.shape.proofs.Sound.{Sound}
use Rattle.curve.specs.Record.{length_in}
use Rattle.measure.specs.Measure.{length_answer, stored_answer}

abbrev Answered : Offered → Option Float → Values → Type 0
Answered who stored v = record { answer : v ≡ length_answer who; stored : v ≡ stored_answer who stored }

abbrev number : Float → Values
number x = record { refusal = none; values = x ∷ [] }

-- a rule of the curve applies
pub length_refused : (who : Offered) (stored : Option Float) {r : Verdict} → r ≡ first_of who.rules → (r.number ≡ 0 → ⊥) → Answered who stored (untold r)
unfolding length_answer
length_refused who (Some l) e h = record { answer = tells (refused_told _ _ e h); stored = tells (left-told _ e h) }
length_refused who None e h = record { answer = tells (refused_told _ _ e h); stored = tells (refused_told _ _ e h) }

-- none does
module _ (who : Offered) (s : Sound who) (p : Passed who.rules) {length : Float} (sum : length ≡ length_in who.shape) where
  wild : {r : Verdict} → finite length ≡ false → r ≡ refusal 15 → untold r ≡ length_answer who
  unfolding length_answer
  wild h e = tells (after-told who.rules s.counted p (stop_told 14 e (ap not (ap finite (sym sum) ∙ h))))

  tame : finite length ≡ true → number length ≡ length_answer who
  unfolding length_answer
  tame h = ap number sum ∙ tells (after-told who.rules s.counted p (pass_told 15 (ap not (ap finite (sym sum) ∙ h)) done-told))

  pub length_wild : (stored : Option Float) {r : Verdict} → IfSome stored (λ l. length ≡ l) → IfSome stored (λ l. finite l ≡ true)
      → finite length ≡ false → r ≡ refusal 15 → Answered who stored (untold r)
  length_wild (Some l) k f h e = absurd (true≢false (sym f ∙ ap finite (sym k) ∙ h))
  length_wild None k f h e = record { answer = wild h e; stored = wild h e }

  pub length_told : (stored : Option Float) → IfSome stored (λ l. length ≡ l) → finite length ≡ true → Answered who stored (number length)
  length_told (Some l) k h = record { answer = tame h; stored = ap number k ∙ tells (passed_told who.rules s.counted p done-told) }
  length_told None k h = record { answer = tame h; stored = tame h }
