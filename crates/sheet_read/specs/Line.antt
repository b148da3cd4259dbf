-- Inner: a line of hexadecimal digits, as the files of recorded cases have them.
use Rattle.std.specs.Prelude.{ℕ, Bool, true, false, ◌&&◌, cond, List, leb}
use Rattle.sheet_read.specs.Number.{number_at, hex_stands}

-- a line: whether it has the form, and the number that it writes
pub record Line : Type 0 where
  pub formed : Bool
  pub bits : ℕ

abbrev pub no_line : Line
no_line = record { formed = false; bits = 0 }

-- n digits, at most 16, and the end of the line
unfoldable pub line_of : List ℕ → ℕ → Line
unfolding number_at
line_of s n = cond (leb n 16 && hex_stands s n 10 0) (record { formed = true; bits = number_at 16 s n 0 }) no_line
