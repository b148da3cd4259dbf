-- The pattern b of a positive double stands for `pattern_units b` units, whose significand has at most 53 digits. Assumes nothing.
use mathlib.Core.Path.{◌≡◌, refl, sym, ap, ◌∙◌, subst}
use mathlib.Core.Bool.{false, cond}
use Prim.Native.Nat.{ℕ, suc, ◌+◌, ◌-◌, ◌*◌, ◌/◌, ◌%◌, ◌^◌, ◌≤◌, ◌<◌}
use native.Mathlib.Nat.{lt_of_not-le, mod-eq_of_lt, mul-one, add_comm}
use native.Mathlib.Decide.{dec_le}
use native.Mathlib.Omega.{arith}
use lib.Arith.{le→nltb, lt→nleb}
use lib.Dec.{T, ltb, leb, eqb, lt→ltb, eqb→eq, not_T}
use lib.Ieee.{Float, nan, inf, binary64, odd, of_fields, of_bits}
use lib.Ieee.Bits.{is_true, is_false, cond_no}
use lib.Ieee.Exact.{HasValue, odd_sign}
use Rattle.root.specs.Pattern.{pattern_units}

-- ---- the two kinds of patterns

-- a subnormal's, which is the number of units itself
pub small_pattern : (b : ℕ) → b < 2 ^ 52 → pattern_units b ≡ b
small_pattern b h = rw (is_true (ltb b (2 ^ 52)) (lt→ltb b (2 ^ 52) h))

-- and any other, with the exponent in its upper digits
pub large_pattern : (b : ℕ) → 2 ^ 52 ≤ b → pattern_units b ≡ (b % 2 ^ 52 + 2 ^ 52) * 2 ^ (b / 2 ^ 52 - 1)
large_pattern b h = rw (is_false (ltb b (2 ^ 52)) (le→nltb b (2 ^ 52) h))

pub pattern_digits : (b : ℕ) → (o : ℕ) × (j : ℕ) × (pattern_units b ≡ o * 2 ^ j) × (o < 2 ^ 53)
pattern_digits b = go (dec_le (2 ^ 52) b)
  where
    go : Dec (2 ^ 52 ≤ b) → (o : ℕ) × (j : ℕ) × (pattern_units b ≡ o * 2 ^ j) × (o < 2 ^ 53)
    go (yes h) = (b % 2 ^ 52 + 2 ^ 52, b / 2 ^ 52 - 1, large_pattern b h, omega arith)
    go (no f) = (b, 0, small_pattern b (lt_of_not-le f) ∙ sym (mul-one b), omega (arith, lt_of_not-le f))

-- ---- what `of_bits` makes of them

-- the sign is plus, and the two fields are those of b
fields : (b : ℕ) → b < 0x7ff0_0000_0000_0000 → of_bits binary64 b ≡ of_fields binary64 false (b / 2 ^ 52) (b % 2 ^ 52)
unfolding of_bits
fields b k = rw (is_false (leb (2 ^ 63) b) (lt→nleb (2 ^ 63) b (small b k)), mod-eq_of_lt (small b k))
  where
    small : (b : ℕ) → b < 0x7ff0_0000_0000_0000 → b < 2 ^ 63
    small b h = omega arith

at_zero : (t : ℕ) → of_fields binary64 false 0 t ≡ odd 53 false t 0 1074
unfolding of_fields
at_zero t = refl

under_ones : (t x : ℕ) → suc x < 2047 → of_fields binary64 false (suc x) t ≡ odd 53 false (2 ^ 52 + t) x 1074
unfolding of_fields
under_ones t x h =
    cond_no (eqb (suc x) 2047) (cond (eqb t 0) (inf false) nan) (odd 53 false (2 ^ 52 + t) x 1074)
    (not_T (eqb (suc x) 2047) (λ (u : T (eqb (suc x) 2047)). omega (arith, eqb→eq (suc x) 2047 u)))

large_value : (b : ℕ) → 2 ^ 52 ≤ b → b < 0x7ff0_0000_0000_0000 → HasValue (of_bits binary64 b) false (pattern_units b) (2 ^ 1074)
large_value b h k =
    let t = b % 2 ^ 52 in
    let x = b / 2 ^ 52 - 1 in
    let e : b / 2 ^ 52 ≡ suc x = omega arith in
    rw (large_pattern b h, add_comm t (2 ^ 52), fields b k ∙ ap (λ (z : ℕ). of_fields binary64 false z t) e ∙ under_ones t x (omega arith))
    (odd_sign 53 false (2 ^ 52 + t) x 1074)

small-value : (b : ℕ) → b < 2 ^ 52 → HasValue (of_bits binary64 b) false (pattern_units b) (2 ^ 1074)
small-value b h =
    let t = b % 2 ^ 52 in
    let e : b / 2 ^ 52 ≡ 0 = omega arith in
    subst (λ (v : ℕ). HasValue (of_bits binary64 b) false v (2 ^ 1074)) (mul-one t ∙ mod-eq_of_lt h ∙ sym (small_pattern b h))
    (subst (λ (y : Float). HasValue y false (t * 2 ^ 0) (2 ^ 1074))
    (sym (fields b (omega arith) ∙ ap (λ (z : ℕ). of_fields binary64 false z t) e ∙ at_zero t))
    (odd_sign 53 false t 0 1074))

pub pattern_value : (b : ℕ) → b < 0x7ff0_0000_0000_0000 → HasValue (of_bits binary64 b) false (pattern_units b) (2 ^ 1074)
pattern_value b k = go (dec_le (2 ^ 52) b)
  where
    go : Dec (2 ^ 52 ≤ b) → HasValue (of_bits binary64 b) false (pattern_units b) (2 ^ 1074)
    go (yes h) = large_value b h k
    go (no f) = small-value b (lt_of_not-le f)
