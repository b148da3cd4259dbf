-- The sheet's sections. docs/RULES.md, "The sheet", decides: the form, then points, knots and parameters, each after its count, and nothing more.
use Rattle.std.specs.Prelude.{ℕ, ◌+◌, ◌-◌, ◌*◌, ◌%◌, Bool, true, false, ◌&&◌, cond, List, length, eqb, Float}
use Rattle.meaning.specs.Search.{listed, every}
use Rattle.knots.specs.declared.Form.{Form}
use Rattle.knots.specs.declared.Form.TheVariants.{Control, Fit}
use Rattle.sheet_read.specs.Text.{text, word_stands}
use Rattle.sheet_read.specs.Number.{digits_at, count_at, count_stands, double_stands, double_at}

-- a number takes 17 bytes, with the byte after it: a space, or where it is the last of its line the line's end
abbrev pub number_place : ℕ → ℕ → ℕ
number_place start j = start + 17 * j

abbrev pub byte_after : ℕ → ℕ → ℕ
byte_after per j = cond (eqb (j % per) (per - 1)) 10 32

-- n numbers, `per` of them to a line
unfoldable pub numbers_stand : List ℕ → ℕ → ℕ → ℕ → Bool
unfolding double_stands
numbers_stand s per n start = every n (λ j. double_stands s (byte_after per j) (number_place start j))

unfoldable pub numbers_at : List ℕ → ℕ → ℕ → List Float
unfolding double_at
numbers_at s start n = listed 0 n (λ j. double_at s (number_place start j))

-- ---- a section

-- whether it has the form, how many lines it has, where its first number stands, and where what comes after it does
pub record Section : Type 0 where
  pub formed : Bool
  pub count : ℕ
  pub start : ℕ
  pub next : ℕ

abbrev pub no_section : Section
no_section = record { formed = false; count = 0; start = 0; next = 0 }

-- the word w, a count of at most `most`, and so many lines of `per` numbers, of which the first stands at `start`; what comes after them stands at `next`
unfoldable pub section_at : List ℕ → List ℕ → ℕ → ℕ → ℕ → Section
unfolding word_stands digits_at count_stands numbers_stand
section_at s w most per at =
    let c = at + length w in
    let n = count_at s c in
    let start = c + digits_at s c + 1 in
    cond (word_stands s w at && (count_stands s most c && numbers_stand s per (per * n) start))
    (record { formed = true; count = n; start = start; next = number_place start (per * n) })
    no_section

-- ---- the first line

abbrev pub form_text : Form → List ℕ
form_text Control = text "control\n"
form_text Fit = text "fit\n"

abbrev pub form_stands : List ℕ → Form → Bool
form_stands s form = word_stands s (form_text form) 0

-- the form that the first line says; `Control` where it says none, and then `form_stands` is false of it
abbrev pub form_of : List ℕ → Form
form_of s = cond (form_stands s Fit) Fit Control

-- ---- the sheet

-- whether it has the form, what its points are, and its sections
pub record Sheet : Type 0 where
  pub formed : Bool
  pub form : Form
  pub points : Section
  pub knots : Section
  pub parameters : Section

unfoldable pub sheet_of : List ℕ → Sheet
unfolding word_stands section_at
sheet_of s =
    let form = form_of s in
    let points = section_at s (text "points ") 66 2 (length (form_text form)) in
    let knots = section_at s (text "knots ") 70 1 points.next in
    let parameters = section_at s (text "at ") 1024 1 knots.next in
    record {
      formed = form_stands s form && (points.formed && (knots.formed && (parameters.formed && eqb parameters.next (length s))));
      form = form;
      points = points;
      knots = knots;
      parameters = parameters;
    }
