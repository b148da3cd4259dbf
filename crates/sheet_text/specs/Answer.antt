-- What is answered to a sheet. docs/RULES.md, "The sheet", decides: `r 16` where it has not the form; else the build, and each parameter's line.
use Rattle.std.specs.Prelude.{◌≡◌, Bool, not, cond, List, ℕ, ◌*◌, length, ltb, eqb, Float}
use Rattle.std.proofs.Math.Seq.{paste}
use Rattle.refusal.specs.Refusals.{refusal}
use Rattle.fit.specs.Fit.{Making}
use Rattle.build.specs.Build.{built}
use Rattle.sheet_read.specs.Grammar.{numbers_at, Sheet, sheet_of}
use Rattle.sheet_text.specs.Printed.{refusal_text}
use Rattle.sheet_text.specs.Curves.{built_text}

-- ---- what the sheet x, whose text is s, says

module _ (s : List ℕ) (x : Sheet) where
  abbrev pub points_of : List Float
  points_of = numbers_at s x.points.start (2 * x.points.count)

  abbrev pub knots_of : List Float
  knots_of = numbers_at s x.knots.start x.knots.count

  -- `knots 0` means none given
  abbrev pub given_of : Bool
  given_of = not (eqb x.knots.count 0)

  abbrev pub parameters_of : List Float
  parameters_of = numbers_at s x.parameters.start x.parameters.count

  -- the build, with a lent work buffer
  abbrev pub sheet_build : List Float → Making
  sheet_build work = built x.form points_of given_of knots_of work

  unfoldable pub sheet_text : List Float → List ℕ
  sheet_text work = built_text (sheet_build work).built parameters_of

  abbrev pub sheet_work : List Float → List Float
  sheet_work work = (sheet_build work).work

-- ---- what any text is answered, and the work buffer afterwards

unfoldable pub answer_text : List ℕ → List Float → List ℕ
answer_text s work = cond (sheet_of s).formed (sheet_text s (sheet_of s) work) (refusal_text (refusal 16))

unfoldable pub answer_work : List ℕ → List Float → List Float
answer_work s work = cond (sheet_of s).formed (sheet_work s (sheet_of s) work) work

-- ---- the door

-- The longest answer is a head of 12 bytes and 1024 lines of 36. A shorter slice is too short for a sheet.
abbrev pub too_short : List ℕ → Bool
too_short out = ltb (length out) 36876

-- The answer stands at the front of `out`, and `n` is its length; where `out` is too short nothing is done, and `n` is 0.
pub record Answered (s out : List ℕ) (work : List Float) (n : ℕ) (out' : List ℕ) (work' : List Float) : Type 0 where
  pub bytes : out' ≡ cond (too_short out) out (paste out 0 (answer_text s work) (length (answer_text s work)))
  pub count : n ≡ cond (too_short out) 0 (length (answer_text s work))
  pub lent : work' ≡ cond (too_short out) work (answer_work s work)
