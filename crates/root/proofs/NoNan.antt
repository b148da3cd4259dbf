-- What is no NaN: a pattern below the infinity's, and the two sides of a comparison that holds. Assumes nothing.
use mathlib.Core.Path.{◌≡◌, sym, subst}
use mathlib.Core.Bool.{Bool, true, not, ◌||◌}
use Prim.Native.Nat.{ℕ, ◌%◌, ◌^◌, ◌≤◌, ◌<◌}
use native.Mathlib.Omega.{arith}
use lib.Arith.{le→nltb}
use lib.Dec.{T}
use lib.Ieee.{Float, nan, inf, fin, binary64, lt, eq, le, is_nan, nan_bits}
use lib.Ieee.Bits.{nan_bits_above}

pub no_nan : (n : ℕ) → n < 0x7ff0_0000_0000_0000 → T (not (nan_bits binary64 n))
no_nan n h = subst (λ (b : Bool). T (not b)) (sym (nan_bits_above binary64 n)) (le→nltb 0x7ff0_0000_0000_0000 (n % 2 ^ 63) (in_range n h))
  where
    in_range : (n : ℕ) → n < 0x7ff0_0000_0000_0000 → n % 2 ^ 63 ≤ 0x7ff0_0000_0000_0000
    in_range n h = omega arith

pub lower_no_nan : (x y : Float) → lt x y ≡ true → T (not (is_nan x))
unfolding lt is_nan
lower_no_nan nan y e = subst T (sym e) tt
lower_no_nan (inf s) y e = tt
lower_no_nan (fin s m k) y e = tt

pub upper_no_nan : (x y : Float) → T (le x y) → T (not (is_nan y))
unfolding le is_nan
upper_no_nan x (inf s) l = tt
upper_no_nan x (fin s m e) l = tt
upper_no_nan nan nan l = absurd l
upper_no_nan (inf s) nan l = absurd l
upper_no_nan (fin s m e) nan l = absurd l

pub le_of_lt : (x y : Float) → lt x y ≡ true → T (le x y)
unfolding le
le_of_lt x y e = subst (λ (b : Bool). T (b || eq x y)) (sym e) tt
