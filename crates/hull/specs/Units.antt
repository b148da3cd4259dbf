-- Finite doubles in whole numbers. A finite double is a whole number of 2 ^ -1074, the smallest one, with a sign; that is a unit here, and
-- `in_units` counts them. A width of 2 ^ -47 of such a number is a whole multiple of 2 ^ -1121, in which demand 3 (docs/RULES.md) compares. Of an infinity and of
-- a NaN nothing here speaks: every value that demand 3 measures is finite.
use Rattle.std.specs.Prelude.{Bool, false, cond, ℕ, ◌+◌, ◌-◌, ◌*◌, ◌^◌, ◌≤◌, Float}
use Rattle.std.specs.Float.{nan, inf, fin}
use Rattle.meaning.specs.Root.{in_units}

-- 1.0 in units
abbrev pub U : ℕ
U = 2 ^ 1074

abbrev pub negative : Float → Bool
negative nan = false
negative (inf s) = s
negative (fin s m e) = s

-- The units of x above zero and those below: x is the first less the second, and one of them is 0.
abbrev pub plus : Float → ℕ
plus x = cond (negative x) 0 (in_units x)

abbrev pub minus : Float → ℕ
minus x = cond (negative x) (in_units x) 0

-- y - x in units, and 0 where y is the smaller
abbrev pub rise_of : Float → Float → ℕ
rise_of x y = plus y + minus x - (plus x + minus y)

-- x is at most 2 ^ k in size
abbrev pub SizeAtMost : ℕ → Float → Type 0
SizeAtMost k x = in_units x ≤ U * 2 ^ k
