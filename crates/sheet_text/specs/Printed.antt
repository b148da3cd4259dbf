-- What the answer to a sheet is made of. docs/RULES.md, "The sheet", decides.
use Rattle.std.specs.Prelude.{cond, List, [], ◌∷◌, ◌++◌, ℕ, ◌-◌, ◌*◌, ◌/◌, ◌%◌, ◌^◌, ltb, Float}
use Prim.Native.String.{String}
use Rattle.std.specs.Float.{binary64}
use Rattle.std.specs.Float.Ieee.{to_bits}
use Rattle.meaning.specs.Search.{listed}
use Rattle.sheet_read.specs.Text.{text}
use Rattle.sheet_read.specs.Number.{glyph}
use Rattle.refusal.specs.Refusals.{Verdict}

-- 64 bits as 16 digits, four bits to each
unfoldable pub hex_text : ℕ → List ℕ
unfolding listed
hex_text b = listed 0 16 (λ i. glyph (b / 2 ^ (60 - 4 * i) % 16))

-- a number below 100, as every count and refusal is
unfoldable pub decimal_text : ℕ → List ℕ
decimal_text n = cond (ltb n 10) (glyph n ∷ []) (glyph (n / 10 % 10) ∷ glyph (n % 10) ∷ [])

unfoldable pub double_text : Float → List ℕ
unfolding hex_text to_bits
double_text x = hex_text (to_bits binary64 x)

-- ---- the three kinds of lines

-- a word, and a number after it
abbrev pub worded : String → List ℕ → List ℕ
worded w number = text w ++ number

unfoldable pub refusal_text : Verdict → List ℕ
unfolding decimal_text
refusal_text r = worded "r " (decimal_text r.number) ++ text "\n"

unfoldable pub head_text : ℕ → ℕ → List ℕ
unfolding decimal_text
head_text points knots = worded "curve " (decimal_text points) ++ (worded " " (decimal_text knots) ++ text "\n")

unfoldable pub point_text : Float → Float → List ℕ
unfolding double_text
point_text x y = worded "p " (double_text x) ++ (worded " " (double_text y) ++ text "\n")
