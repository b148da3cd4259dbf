-- What a call answers that has numbers for an answer, or a refusal.
use Rattle.std.specs.Prelude.{cond, List, [], ◌∷◌, Float, Result, Ok, Err}
use Rattle.refusal.specs.declared.Refusal.{Refusal}
use Rattle.refusal.specs.Refusals.{Verdict, refusal, number_by, Row, first_of, passes, none}

-- the refusal, and the values where there is none
pub record Values : Type 0 where
  pub refusal : Verdict
  pub values : List Float

-- one number, case by case
abbrev pub told : Result Float Refusal → Values
told (Ok x) = record { refusal = none; values = x ∷ [] }
told (Err r) = record { refusal = refusal (number_by r); values = [] }

-- by these rules
unfoldable pub telling : List Row → List Float → Values
telling rules values = record { refusal = first_of rules; values = cond (passes rules) values [] }
