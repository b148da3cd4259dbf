-- Where the root lies: it is a double, no NaN where x is none, and never below zero. This needs no more than that it is one rounding.
-- Assumes nothing.
use mathlib.Core.Path.{◌≡◌, refl, subst}
use mathlib.Core.Bool.{true, false, not}
use Prim.Native.Nat.{ℕ, zero, suc, ◌*◌, ◌^◌, ◌≤◌}
use native.Mathlib.Nat.{mul-le-mul_right}
use native.Mathlib.Omega.{arith}
use lib.IntN.{pos}
use lib.Dec.{T}
use lib.Pow.{pow_pos}
use lib.Ieee.{Float, nan, inf, fin, binary64, is_nan, fits, le, round}
use lib.Ieee.Fits.{round-fits}
use lib.Ieee.Order.{round_mono}
use Rattle.meaning.specs.Root.{root_squared, four_roots, root_of}
use Rattle.root.proofs.NoNan.{upper_no_nan}

-- the root of a positive number, as one rounding
abbrev pub rounded : Float → Float
rounded x = round binary64 false (four_roots (root_squared x)) (4 * 2 ^ 1074)

pub root-fits : (x : Float) → T (fits binary64 (root_of x))
unfolding root_of fits
root-fits nan = tt
root-fits (inf true) = tt
root-fits (inf false) = tt
root-fits (fin true m e) = tt
root-fits (fin false zero e) = tt
root-fits (fin false (suc m) e) = round-fits binary64 false (four_roots (root_squared (fin false (suc m) e))) (4 * 2 ^ 1074)

zero_rounds : round binary64 false 0 (4 * 2 ^ 1074) ≡ fin false 0 (pos 0)
unfolding round
zero_rounds = refl

-- all roots are made over the same denominator
pub rounds_in_order : (n p : ℕ) → n ≤ p → T (le (round binary64 false n (4 * 2 ^ 1074)) (round binary64 false p (4 * 2 ^ 1074)))
rounds_in_order n p h = round_mono binary64 n (4 * 2 ^ 1074) p (4 * 2 ^ 1074) (pow_pos 1076) (pow_pos 1076) (mul-le-mul_right (4 * 2 ^ 1074) h)

pub root_not_below : (x : Float) → T (not (is_nan x)) → T (le (fin false 0 (pos 0)) (root_of x))
unfolding root_of is_nan le
root_not_below nan h = absurd h
root_not_below (inf true) h = tt
root_not_below (inf false) h = tt
root_not_below (fin true m e) h = tt
root_not_below (fin false zero e) h = tt
root_not_below (fin false (suc m) e) h =
    subst (λ (z : Float). T (le z (rounded (fin false (suc m) e)))) zero_rounds
    (rounds_in_order 0 (four_roots (root_squared (fin false (suc m) e))) (omega arith))

pub root_no_nan : (x : Float) → T (not (is_nan x)) → T (not (is_nan (root_of x)))
root_no_nan x h = upper_no_nan (fin false 0 (pos 0)) (root_of x) (root_not_below x h)
