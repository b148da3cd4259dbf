-- A table of refusals, as docs/RULES.md writes it: rows in order of checking, of which the first that applies is given.
use Rattle.std.specs.Prelude.{ℕ, Bool, cond, List, [], ◌∷◌, eqb, Result, Ok, Err}
use Rattle.refusal.specs.declared.Refusal.{Refusal}
use Rattle.refusal.specs.declared.Refusal.TheVariants.{OddCoordinates, FewHandles, FewControlPoints, ManyHandles, KnotsWithFitPoints, KnotCount, UnfitKnot, NotClamped, NoInterval, CrowdedKnot, WildCoordinate, WildParameter, TooMuchAsked, ShortSlice, WildOutcome, NoSheet, RecordMismatch}

-- ---- verdicts: the number of the rule that refuses, or 0

pub record Verdict : Type 0 where
  pub number : ℕ

-- by rule k; 0 is no refusal
abbrev pub refusal : ℕ → Verdict
refusal k = record { number = k }

abbrev pub none : Verdict
none = refusal 0

abbrev pub is_none : Verdict → Bool
is_none r = eqb r.number 0

-- ---- the code's enum

-- the number of each rule in the table
abbrev pub number_by : Refusal → ℕ
number_by OddCoordinates = 1
number_by FewHandles = 2
number_by FewControlPoints = 3
number_by ManyHandles = 4
number_by KnotsWithFitPoints = 5
number_by KnotCount = 6
number_by UnfitKnot = 7
number_by NotClamped = 8
number_by NoInterval = 9
number_by CrowdedKnot = 10
number_by WildCoordinate = 11
number_by WildParameter = 12
number_by TooMuchAsked = 13
number_by ShortSlice = 14
number_by WildOutcome = 15
number_by NoSheet = 16
number_by RecordMismatch = 17

-- what an answer says of being refused
abbrev pub verdict : {A : Type 0} → Result A Refusal → Verdict
verdict (Ok a) = none
verdict (Err r) = refusal (number_by r)

-- ---- tables

-- a refusal, and whether it applies
pub record Row : Type 0 where
  pub refusal : Verdict
  pub applies : Bool

abbrev pub row : ℕ → Bool → Row
row k b = record { refusal = refusal k; applies = b }

-- the first row that applies, and no refusal where none does
unfoldable pub first_of : List Row → Verdict
first_of [] = none
first_of (r ∷ rs) = cond r.applies r.refusal (first_of rs)

-- no row applies
abbrev pub passes : List Row → Bool
passes rules = is_none (first_of rules)
