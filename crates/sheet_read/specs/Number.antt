-- How a sheet writes a number. docs/RULES.md, "The sheet", decides: counts are decimal without leading zeros, doubles are 16 upper-case
-- hexadecimal digits of their bits.
use Rattle.std.specs.Prelude.{ℕ, ◌+◌, ◌-◌, ◌*◌, Bool, not, ◌&&◌, ◌||◌, cond, List, leb, ltb, eqb, Float}
use Rattle.std.specs.Float.{binary64}
use Rattle.std.specs.Float.Ieee.{of_bits}
use Rattle.meaning.specs.Loops.{run}
use Rattle.meaning.specs.Search.{seek, every}
use Rattle.sheet_read.specs.Text.{byte_at}

abbrev pub within : ℕ → ℕ → ℕ → Bool
within lo hi b = leb lo b && leb b hi

-- the bytes `0` to `9`, and `A` to `F`
abbrev pub is_decimal : ℕ → Bool
is_decimal b = within 48 57 b

abbrev pub is_letter : ℕ → Bool
is_letter b = within 65 70 b

abbrev pub is_hex : ℕ → Bool
is_hex b = is_decimal b || is_letter b

-- what a digit stands for, and 0 for a byte that is none
unfoldable pub digit_of : ℕ → ℕ
digit_of b = cond (is_decimal b) (b - 48) (cond (is_letter b) (b - 55) 0)

-- and the byte of a digit
abbrev pub glyph : ℕ → ℕ
glyph d = cond (ltb d 10) (48 + d) (55 + d)

-- the number that n digits from `at` on write, the most significant first
unfoldable pub number_at : ℕ → List ℕ → ℕ → ℕ → ℕ
unfolding digit_of
number_at base s n at = run 0 n (λ i v. v * base + digit_of (byte_at s (at + i))) 0

-- ---- a count

-- how many decimal digits stand from `at` on; no count has more than four
unfoldable pub digits_at : List ℕ → ℕ → ℕ
digits_at s at = seek 0 4 (λ i. not (is_decimal (byte_at s (at + i))))

abbrev pub count_at : List ℕ → ℕ → ℕ
count_at s at = number_at 10 s (digits_at s at) at

-- a digit, no zero before another digit, a count of at most `most`, and the end of the line
unfoldable pub count_stands : List ℕ → ℕ → ℕ → Bool
unfolding digits_at number_at
count_stands s most at =
    let d = digits_at s at in
    leb 1 d && ((eqb d 1 || not (eqb (byte_at s at) 48)) && (leb (count_at s at) most && eqb (byte_at s (at + d)) 10))

-- ---- a double

-- n hexadecimal digits, and after them the byte e
abbrev pub hex_stands : List ℕ → ℕ → ℕ → ℕ → Bool
hex_stands s n e at = every n (λ i. is_hex (byte_at s (at + i))) && eqb (byte_at s (at + n)) e

unfoldable pub double_stands : List ℕ → ℕ → ℕ → Bool
double_stands s e at = hex_stands s 16 e at

unfoldable pub double_at : List ℕ → ℕ → Float
unfolding number_at of_bits
double_at s at = of_bits binary64 (number_at 16 s 16 at)
