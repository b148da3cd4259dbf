-- Inner: what a pattern stands for, which the private functions of this crate say in their contracts: they work on patterns and not on doubles.
-- No caller needs it: `root`'s contract is `root_of` of `meaning` alone.
use Rattle.std.specs.Prelude.{ℕ, ◌+◌, ◌-◌, ◌*◌, ◌/◌, ◌%◌, ◌^◌, cond, ltb}

-- How many units of 2 ^ -1074 the positive double with the pattern b has: b itself where the exponent's field is 0, and otherwise the
-- 52 digits with the leading one that is not stored, moved up by one place less than the field says.
abbrev pub pattern_units : ℕ → ℕ
pattern_units b = cond (ltb b (2 ^ 52)) b ((b % 2 ^ 52 + 2 ^ 52) * 2 ^ (b / 2 ^ 52 - 1))
