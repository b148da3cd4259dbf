-- Worked examples, each computed from the definitions: where the rule before lost digits, lost everything or overflowed, where it did not, and a distance whose
-- root is rounded again. Assumes nothing.
use mathlib.Core.Path.{◌≡◌, refl}
use mathlib.Core.Bool.{false}
use Prim.Native.Nat.{ℕ}
use lib.Ieee.{Float, inf, binary64, add, sub, mul, of_bits}
use Rattle.meaning.specs.Root.{root_of}
use Rattle.plane.specs.Vector.{Vector}
use Rattle.distance_rule.specs.Distance.{distance_of}
use Rattle.distance_rule.specs.Squares.{unscaled_of}

-- the point with these patterns
abbrev at : ℕ → ℕ → Vector Float
at x y = record { x = of_bits binary64 x; y = of_bits binary64 y }

abbrev origin : Vector Float
origin = at 0 0

-- ---- the square of 2 ^ -600 is 0

vanished : unscaled_of (at 0x1a70_0000_0000_0000 0) origin ≡ of_bits binary64 0
unfolding unscaled_of sub mul root_of of_bits
vanished = refl

not_vanished : distance_of (at 0x1a70_0000_0000_0000 0) origin ≡ of_bits binary64 0x1a70_0000_0000_0000
unfolding distance_of sub add mul root_of of_bits
not_vanished = refl

-- ---- two doubles below the bound, the other square has lost its last digits

short_of_it : unscaled_of (at 0x21a6_a09e_667f_3bcb 0x1ff6_a09e_667f_3bcd) origin ≡ of_bits binary64 0x21a6_a09e_667f_3bcb
unfolding unscaled_of sub mul root_of of_bits
short_of_it = refl

not_short : distance_of (at 0x21a6_a09e_667f_3bcb 0x1ff6_a09e_667f_3bcd) origin ≡ of_bits binary64 0x21a6_a09e_667f_3bcc
unfolding distance_of sub add mul root_of of_bits
not_short = refl

-- ---- at the bound, the first whose square is 2 ^ -969 at least, it has not

at_bound : unscaled_of (at 0x21a6_a09e_667f_3bcd 0x1ff6_a09e_667f_3bcd) origin ≡ of_bits binary64 0x21a6_a09e_667f_3bcd
unfolding unscaled_of sub mul root_of of_bits
at_bound = refl

still_at_bound : distance_of (at 0x21a6_a09e_667f_3bcd 0x1ff6_a09e_667f_3bcd) origin ≡ of_bits binary64 0x21a6_a09e_667f_3bcd
unfolding distance_of sub add mul root_of of_bits
still_at_bound = refl

-- ---- the square of 2 ^ 600 is infinite

overflowed : unscaled_of (at 0x6570_0000_0000_0000 0) origin ≡ inf false
unfolding unscaled_of sub mul root_of of_bits
overflowed = refl

not_overflowed : distance_of (at 0x6570_0000_0000_0000 0) origin ≡ of_bits binary64 0x6570_0000_0000_0000
unfolding distance_of sub add mul root_of of_bits
not_overflowed = refl

-- ---- a subnormal distance: the root has 53 digits, of which 26 are kept

twice_rounded : distance_of (at 0x28e_8caf 0x3_83d3) origin ≡ of_bits binary64 0x28e_8f1a
unfolding distance_of sub add mul root_of of_bits
twice_rounded = refl

-- ---- too large for a double, and a difference that is

too_large : distance_of (at 0x7fe8_0000_0000_0000 0x7fe8_0000_0000_0000) origin ≡ inf false
unfolding distance_of sub add mul root_of of_bits
too_large = refl

infinite : distance_of (at 0x7fef_ffff_ffff_ffff 0) (at 0xffef_ffff_ffff_ffff 0) ≡ inf false
unfolding distance_of sub add mul root_of of_bits
infinite = refl
