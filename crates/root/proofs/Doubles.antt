-- A double that is finite and has no minus sign is known by its number of units, and that is its pattern's. Assumes nothing.
use mathlib.Core.Path.{◌≡◌, sym, ap, ◌∙◌, subst}
use mathlib.Core.Bool.{true, false, ◌&&◌}
use Prim.Native.Nat.{ℕ, zero, suc, ◌+◌, ◌-◌, ◌*◌, ◌/◌, ◌%◌, ◌^◌, ◌≤◌, ◌<◌}
use native.Mathlib.Nat.{le_of_eq, lt_of_le_of_lt, lt_of_lt_of_le, mul-pos, mul_right_comm, mul-lt-mul_of_pos_right, mul-div_cancel, div-lt_iff_lt-mul, zero-mul}
use native.Mathlib.Omega.{arith}
use lib.IntN.{ℤ}
use lib.Dec.{T, leb, ltb, eqb, ltb→lt}
use lib.Pow.{pow_pos}
use lib.Ieee.{Float, nan, inf, fin, binary64, up, down, size, of_bits, to_bits, fits}
use lib.Ieee.Bits.{of_bits-to_bits}
use lib.Ieee.Digits.{size-le}
use lib.Ieee.Exact.{HasValue}
use lib.Ieee.Fits.{down_pos, and_r, kept-lt}
use Rattle.meaning.specs.Root.{in_units, unsigned}
use Rattle.root.specs.Pattern.{pattern_units}
use Rattle.root.proofs.Patterns.{pattern_value, pattern_digits}

-- ---- from a value to the double

pub units_of : (x : Float) (v : ℕ) → HasValue x false v (2 ^ 1074) → in_units x ≡ v
unfolding in_units
units_of nan v h = absurd h
units_of (inf s) v h = absurd h
units_of (fin s m e) v h = ap (λ (n : ℕ). n / down e) h.1 ∙ mul-div_cancel v (down_pos e)

pub unsigned_of : (y : Float) (v : ℕ) → HasValue y false v (2 ^ 1074) → T (unsigned y)
unsigned_of nan v h = absurd h
unsigned_of (inf s) v h = absurd h
unsigned_of (fin true m e) v h = subst T h.0 tt
unsigned_of (fin false m e) v h = tt

-- the pattern of v units
abbrev written : ℕ → ℕ
written v = 0 + (size v - 53) * 2 ^ 52 + v / 2 ^ (size v - 53)

bits_of : (x : Float) (v : ℕ) → HasValue x false v (2 ^ 1074) → to_bits binary64 x ≡ written v
unfolding to_bits
bits_of nan v h = absurd h
bits_of (inf s) v h = absurd h
bits_of (fin true m e) v h = absurd (subst T h.0 tt)
bits_of (fin false m e) v h = ap written (ap (λ (n : ℕ). n / down e) h.1 ∙ mul-div_cancel v (down_pos e))

pub same_value : (x y : Float) (v : ℕ) → T (fits binary64 x) → T (fits binary64 y) → HasValue x false v (2 ^ 1074) → HasValue y false v (2 ^ 1074) → x ≡ y
same_value x y v f g h k =
    sym (of_bits-to_bits binary64 x f) ∙ ap (λ (n : ℕ). of_bits binary64 n) (bits_of x v h ∙ sym (bits_of y v k)) ∙ of_bits-to_bits binary64 y g

-- ---- from the double to its pattern, which is below the infinity's

bounded : (m : ℕ) (e : ℤ) → T (fits binary64 (fin false m e)) → m * up e < 2 ^ 1024 * down e
unfolding fits
bounded zero e f = lt_of_le_of_lt (le_of_eq (zero-mul (up e))) (mul-pos (pow_pos 1024) (down_pos e))
bounded (suc m) e f =
    ltb→lt (suc m * up e) (2 ^ 1024 * down e)
    (and_r (eqb (suc m % 2) 1 && ltb (suc m) (2 ^ 53) && leb (down e) (2 ^ 1074)) (ltb (suc m * up e) (2 ^ 1024 * down e)) f)

in_units_lem : (u d l k : ℕ) → 0 < l → 0 < d → u < k * d → u * l / d < k * l
in_units_lem u d l k p q h = (div-lt_iff_lt-mul q).1 (lt_of_lt_of_le (mul-lt-mul_of_pos_right h p) (le_of_eq (mul_right_comm k d l)))

written_below : (z t : ℕ) → z ≤ 2098 → t < 2 ^ 53 → 0 + (z - 53) * 2 ^ 52 + t < 0x7ff0_0000_0000_0000
written_below z t h k = omega arith

pub finite_below : (y : Float) → T (fits binary64 y) → T (unsigned y) → to_bits binary64 y < 0x7ff0_0000_0000_0000
unfolding to_bits
finite_below nan f c = absurd c
finite_below (inf s) f c = absurd c
finite_below (fin true m e) f c = absurd c
finite_below (fin false m e) f c =
    let v = m * up e * 2 ^ 1074 / down e in
    written_below (size v) (v / 2 ^ (size v - 53))
    (size-le v 2098 (in_units_lem (m * up e) (down e) (2 ^ 1074) (2 ^ 1024) (pow_pos 1074) (down_pos e) (bounded m e f))) (kept-lt 53 v)

pub units_below : (y : Float) → T (fits binary64 y) → T (unsigned y) → in_units y < 2 ^ 1024 * 2 ^ 1074
unfolding in_units
units_below nan f c = absurd c
units_below (inf s) f c = absurd c
units_below (fin true m e) f c = absurd c
units_below (fin false m e) f c = in_units_lem (m * up e) (down e) (2 ^ 1074) (2 ^ 1024) (pow_pos 1074) (down_pos e) (bounded m e f)

-- ---- so what is known of a pattern is known of the double

module _ (y : Float) (f : T (fits binary64 y)) (c : T (unsigned y)) where
  pub of_pattern : HasValue y false (pattern_units (to_bits binary64 y)) (2 ^ 1074)
  of_pattern =
      subst (λ (z : Float). HasValue z false (pattern_units (to_bits binary64 y)) (2 ^ 1074)) (of_bits-to_bits binary64 y f)
      (pattern_value (to_bits binary64 y) (finite_below y f c))

  pub own_value : HasValue y false (in_units y) (2 ^ 1074)
  own_value = subst (λ (u : ℕ). HasValue y false u (2 ^ 1074)) (sym (units_of y _ of_pattern)) of_pattern

  pub own_digits : (o : ℕ) × (j : ℕ) × (in_units y ≡ o * 2 ^ j) × (o < 2 ^ 53)
  own_digits = let d = pattern_digits (to_bits binary64 y) in (d.0, d.1, units_of y _ of_pattern ∙ d.2, d.3)
