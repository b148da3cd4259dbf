-- Worked examples, each computed from the definition: four and two, the ends of the range, the largest subnormal, what is not above zero,
-- the infinities and a NaN. Assumes nothing.
use mathlib.Core.Path.{◌≡◌, refl}
use mathlib.Core.Bool.{false}
use lib.Ieee.{nan, inf, binary64, of_bits}
use Rattle.meaning.specs.Root.{root_of}

four : root_of (of_bits binary64 0x4010_0000_0000_0000) ≡ of_bits binary64 0x4000_0000_0000_0000
unfolding root_of of_bits
four = refl

two : root_of (of_bits binary64 0x4000_0000_0000_0000) ≡ of_bits binary64 0x3ff6_a09e_667f_3bcd
unfolding root_of of_bits
two = refl

smallest : root_of (of_bits binary64 1) ≡ of_bits binary64 0x1e60_0000_0000_0000
unfolding root_of of_bits
smallest = refl

largest : root_of (of_bits binary64 0x7fef_ffff_ffff_ffff) ≡ of_bits binary64 0x5fef_ffff_ffff_ffff
unfolding root_of of_bits
largest = refl

largest_subnormal : root_of (of_bits binary64 0x000f_ffff_ffff_ffff) ≡ of_bits binary64 0x1fff_ffff_ffff_ffff
unfolding root_of of_bits
largest_subnormal = refl

minus_zero : root_of (of_bits binary64 0x8000_0000_0000_0000) ≡ of_bits binary64 0
unfolding root_of of_bits
minus_zero = refl

minus_one : root_of (of_bits binary64 0xbff0_0000_0000_0000) ≡ of_bits binary64 0
unfolding root_of of_bits
minus_one = refl

infinite : root_of (of_bits binary64 0x7ff0_0000_0000_0000) ≡ inf false
unfolding root_of of_bits
infinite = refl

minus_infinite : root_of (of_bits binary64 0xfff0_0000_0000_0000) ≡ of_bits binary64 0
unfolding root_of of_bits
minus_infinite = refl

not_a_number : root_of (of_bits binary64 0x7ff8_0000_0000_0000) ≡ nan
unfolding root_of of_bits
not_a_number = refl
