-- What the sheet program answers to an input. docs/RULES.md, "The sheet", decides; a room is never too short.
use Rattle.std.specs.Prelude.{◌≡◌, true, false, cond, List, ℕ, min, length, take, replicate}
use Rattle.std.proofs.Math.Seq.{paste}
use Rattle.refusal.specs.Refusals.{refusal}
use Rattle.curve.specs.Build.{Built, building}
use Rattle.build.specs.Build.{curve_of, rules_of}
use Rattle.sheet_read.specs.Grammar.{Sheet, sheet_of}
use Rattle.sheet_text.specs.Printed.{refusal_text}
use Rattle.sheet_text.specs.Curves.{built_text}
use Rattle.sheet_text.specs.Answer.{points_of, knots_of, given_of, parameters_of}
use Rattle.sheet_text.specs.Promise.{BuiltPromise}
use Rattle.sheet_rooms.specs.declared.Answer.{Answer}

-- the build of the sheet x, whose text is s; no work buffer is short for it
abbrev pub reply_build : List ℕ → Sheet → Built
reply_build s x =
    let points = points_of s x in
    let given = given_of s x in
    let knots = knots_of s x in
    building (rules_of x.form points given knots false) (curve_of x.form points given knots)

-- what it prints, and the line of each parameter
unfoldable pub sheet_reply : List ℕ → Sheet → List ℕ
sheet_reply s x = built_text (reply_build s x) (parameters_of s x)

-- to any input
unfoldable pub reply_text : List ℕ → List ℕ
reply_text s = cond (sheet_of s).formed (sheet_reply s (sheet_of s)) (refusal_text (refusal 16))

-- at the front of its room, which was empty
unfoldable pub reply_to : List ℕ → Answer
reply_to s = record { bytes = paste (replicate 36876 0) 0 (reply_text s) (length (reply_text s)); count = length (reply_text s) }

-- demand 3 (docs/RULES.md) of its lines
abbrev pub ReplyPromise : List ℕ → Type 0
ReplyPromise s = let x = sheet_of s in x.formed ≡ true → BuiltPromise (reply_build s x) (parameters_of s x) x.parameters.count

-- What reading an input leaves: the room's first n bytes are the input's, and it is the whole input or all that there is room for.
pub record ReadInto (room : List ℕ) (n : ℕ) (input : List ℕ) : Type 0 where
  pub count : n ≡ min (length input) (length room)
  pub bytes : take n room ≡ take n input

-- so it answers every input that can have been read so
abbrev pub Replies : List ℕ → ℕ → List ℕ → Type 0
Replies room n answer = (input : List ℕ) → ReadInto room n input → answer ≡ reply_text input
