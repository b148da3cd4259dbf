-- The root of a double. docs/RULES.md, "Root", decides: +0.0 at or below 0, the double nearest to the exact root of a positive number,
-- and an infinity or a NaN as it is. `root_of` says which double that is by computing it; `Nearest` says it by what every other double is not.
-- That the two agree, and that `Nearest` leaves no choice, is proved in the crate `root`.
use Rattle.std.specs.Prelude.{ℕ, zero, suc, ◌+◌, ◌*◌, ◌/◌, ◌^◌, ◌<◌, Bool, false, true, not, cond, pos, T, leb, eqb, Float}
use Rattle.std.specs.Float.{nan, inf, fin, binary64}
use Rattle.std.specs.Float.Ieee.{up, down, size, round, fits}

-- ---- the double in whole numbers

-- How many times a finite double holds the smallest one, 2 ^ -1074: its size, exactly, since every double is a whole number of those.
unfoldable pub in_units : Float → ℕ
in_units nan = 0
in_units (inf s) = 0
in_units (fin s m e) = m * up e * 2 ^ 1074 / down e

-- The exact root of x, in those units, is the root of this number: (√x * 2 ^ 1074) ^ 2.
unfoldable pub root_squared : Float → ℕ
unfolding in_units
root_squared x = in_units x * 2 ^ 1074

-- ---- nearest, as a text

-- a finite number with no minus sign: the doubles that a root is sought among
abbrev pub unsigned : Float → Bool
unsigned nan = false
unsigned (inf s) = false
unsigned (fin s m e) = not s

-- r is the double nearest to the exact root of x: the root lies on r's side of the middle between r and any other double y. Twice that
-- middle is y + r, and twice the root is the root of 4 * root_squared x; no middle is the root itself, so "on r's side" is strict.
pub record Nearest (x r : Float) : Type 0 where
  pub double : T (fits binary64 r)
  pub number : T (unsigned r)
  pub below : (y : Float) → T (fits binary64 y) → T (unsigned y) → in_units y < in_units r
      → (in_units y + in_units r) * (in_units y + in_units r) < 4 * root_squared x
  pub above : (y : Float) → T (fits binary64 y) → T (unsigned y) → in_units r < in_units y
      → 4 * root_squared x < (in_units y + in_units r) * (in_units y + in_units r)

-- ---- nearest, computed

-- The whole part of the root of an n below 4 ^ k, a binary digit at a time: twice the root of a quarter of n, and one more where that is not too much.
unfoldable pub root_within : ℕ → ℕ → ℕ
root_within zero n = 0
root_within (suc k) n = let s = 2 * root_within k (n / 4) in cond (leb ((s + 1) * (s + 1)) n) (s + 1) s

unfoldable pub whole_root : ℕ → ℕ
unfolding root_within size
whole_root n = root_within (size n) n

-- Four times the root of n, as far as rounding can tell: twice the whole part j of the root of 4 * n, and one more where something was cut off.
-- A double, and a middle between two, is a whole number of half units, so nothing smaller than a cut-off half unit is asked for.
unfoldable pub four_roots : ℕ → ℕ
unfolding whole_root
four_roots n = let j = whole_root (4 * n) in 2 * j + cond (eqb (j * j) (4 * n)) 0 1

unfoldable pub root_of : Float → Float
unfolding four_roots root_squared round
root_of nan = nan
root_of (inf s) = cond s (fin false 0 (pos 0)) (inf false)
root_of (fin true m e) = fin false 0 (pos 0)
root_of (fin false zero e) = fin false 0 (pos 0)
root_of (fin false (suc m) e) = round binary64 false (four_roots (root_squared (fin false (suc m) e))) (4 * 2 ^ 1074)
