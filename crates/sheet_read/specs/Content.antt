-- What a sheet says, as 64-bit patterns: its text, and what is read from one. The contracts do not need it: `proofs/Accepted.antt` shows that the texts which
-- have the form are those of a content within the limits, one for each.
use Rattle.std.specs.Prelude.{ℕ, ◌*◌, ◌^◌, ◌≤◌, ◌<◌, ◌≡◌, List, length, get_or}
use Rattle.meaning.specs.Search.{listed}
use Rattle.knots.specs.declared.Form.{Form}
use Rattle.sheet_read.specs.Number.{number_at}
use Rattle.sheet_read.specs.Grammar.{number_place, Section, Sheet, sheet_of}
use Rattle.sheet_read.specs.Written.{formed_text}

-- ---- what is written

-- the lines of a section: how many, and the 64-bit patterns of their numbers in order
pub record Lines : Type 0 where
  pub count : ℕ
  pub bits : List ℕ

-- the form, the points, the knots and the parameters
pub record Content : Type 0 where
  pub form : Form
  pub points : Lines
  pub knots : Lines
  pub parameters : Lines

-- at most `most` lines of `per` numbers, each of 64 bits
pub record Fits (most per : ℕ) (x : Lines) : Type 0 where
  pub few : x.count ≤ most
  pub full : length x.bits ≡ per * x.count
  pub small : (j : ℕ) → j < per * x.count → get_or x.bits j 0 < 2 ^ 64

pub record Within (c : Content) : Type 0 where
  pub points : Fits 66 2 c.points
  pub knots : Fits 70 1 c.knots
  pub parameters : Fits 1024 1 c.parameters

abbrev pub bits_of : Lines → ℕ → ℕ
bits_of x j = get_or x.bits j 0

unfoldable pub written : Content → List ℕ
unfolding formed_text
written c =
    formed_text c.form (bits_of c.points) c.points.count (bits_of c.knots) c.knots.count (bits_of c.parameters) c.parameters.count

-- ---- what a text says, by its sections

-- the pattern of number j after a place
abbrev pub bits_at : List ℕ → ℕ → ℕ → ℕ
bits_at s start j = number_at 16 s 16 (number_place start j)

unfoldable pub lines_at : List ℕ → ℕ → Section → Lines
unfolding number_at
lines_at s per x = record { count = x.count; bits = listed 0 (per * x.count) (bits_at s x.start) }

abbrev pub said_by : List ℕ → Sheet → Content
said_by s x = record { form = x.form; points = lines_at s 2 x.points; knots = lines_at s 1 x.knots; parameters = lines_at s 1 x.parameters }

unfoldable pub said : List ℕ → Content
said s = said_by s (sheet_of s)
