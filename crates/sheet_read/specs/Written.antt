-- The text of what a sheet says. The contracts do not need it: `proofs/Canonical.antt` shows that a text which has the form is the one written here, and
-- `proofs/Accepted.antt` that every text written here has the form.
use Rattle.std.specs.Prelude.{ℕ, zero, suc, ◌*◌, ◌/◌, ◌%◌, cond, List, [], ◌∷◌, ◌++◌, ltb}
use Rattle.meaning.specs.Loops.{run}
use Rattle.knots.specs.declared.Form.{Form}
use Rattle.sheet_read.specs.Text.{text}
use Rattle.sheet_read.specs.Number.{glyph}
use Rattle.sheet_read.specs.Grammar.{byte_after, form_text}

-- the last n digits of v in a base
unfoldable pub digits_text : ℕ → ℕ → ℕ → List ℕ
digits_text base zero v = []
digits_text base (suc n) v = digits_text base n (v / base) ++ (glyph (v % base) ∷ [])

-- a count, in as many digits as it needs
unfoldable pub count_text : ℕ → List ℕ
count_text n = digits_text 10 (cond (ltb n 10) 1 (cond (ltb n 100) 2 (cond (ltb n 1000) 3 4))) n

-- n numbers of 64 bits, `per` to a line
unfoldable pub numbers_text : ℕ → (ℕ → ℕ) → ℕ → List ℕ
numbers_text per bits n = run 0 n (λ j l. l ++ (digits_text 16 16 (bits j) ++ (byte_after per j ∷ []))) []

unfoldable pub section_text : List ℕ → ℕ → (ℕ → ℕ) → ℕ → List ℕ
section_text w per bits count = w ++ (count_text count ++ (text "\n" ++ numbers_text per bits (per * count)))

-- the form, n points, k knots and m parameters
unfoldable pub formed_text : Form → (ℕ → ℕ) → ℕ → (ℕ → ℕ) → ℕ → (ℕ → ℕ) → ℕ → List ℕ
formed_text form points n knots k parameters m =
    form_text form
    ++ (section_text (text "points ") 2 points n ++ (section_text (text "knots ") 1 knots k ++ section_text (text "at ") 1 parameters m))
