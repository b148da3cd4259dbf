-- How a double is printed by its bits.
use Rattle.std.specs.Prelude.{ℕ, ◌-◌, ◌^◌, false, List, [], cond, codes, Float}
use Rattle.std.specs.Float.{binary64}
use Rattle.std.specs.Float.Ieee.{is_nan, to_bits}
use Rattle.std.specs.Fmt.{digits, padded_integral, format_spec}

-- 16 hexadecimal digits, zeros in front; a NaN has no bits of its own. The options are those of `{:016x}`: spaces (32) were to fill, on no side (0), but
-- for the zeros (4), to a width of 16, and no precision, which is the largest number.
abbrev pub bits_text : Float → List ℕ
bits_text x = cond (is_nan x) (codes "nan") (padded_integral (format_spec 32 0 4 16 (2 ^ 64 - 1)) false [] (digits 16 false (to_bits binary64 x)))
