-- A refusal that `?` hands on: that of the rules, and one. Assumes nothing.
use mathlib.Core.Path.{◌≡◌, refl, sym, ◌∙◌}
use mathlib.Core.List.{List}
use Rattle.std.specs.Prelude.{Result, Ok, Err, IsErr, IsErrAnd}
use lib.Ieee.{Float}
use Rattle.std.proofs.Common.{true≢false}
use Rattle.refusal.specs.declared.Refusal.{Refusal}
use Rattle.refusal.specs.Refusals.{Row, first_of, verdict}
use Rattle.refusal.proofs.Rows.{number_of, handed_on, err_number}
use Rattle.outcome.specs.Told.{told}
use Rattle.outcome.proofs.Doors.{untold}

module _ {A B : Type 0} {x : Result A Refusal} {r : Refusal} (e : x ≡ Err r) (y : Result B Refusal) (h : IsErr y × IsErrAnd y (λ s. s ≡ r)) where
  pub rules_refused : (rows : List Row) → verdict x ≡ first_of rows → verdict y ≡ first_of rows
  rules_refused rows told = handed_on e y h ∙ told

  pub is_refused : (verdict y).number ≡ 0 → ⊥
  is_refused z = err_number e (number_of (sym (handed_on e y h)) ∙ z)

-- one number, where there is none
pub err_told : (y : Result Float Refusal) → IsErr y → told y ≡ untold (verdict y)
err_told (Ok x) h = absurd (true≢false (sym h))
err_told (Err r) h = refl
