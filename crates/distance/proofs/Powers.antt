-- The powers of two that a length is scaled by, and what scaling makes of a double. Assumes nothing.
use mathlib.Core.Path.{◌≡◌, refl, sym, ap, ◌∙◌, subst}
use mathlib.Core.Bool.{false}
use Prim.Native.Nat.{ℕ, suc, ◌+◌, ◌-◌, ◌*◌, ◌/◌, ◌%◌, ◌^◌, ◌≤◌, ◌<◌}
use native.Mathlib.Nat.{lt_of_lt_of_le, mul-one, one-mul}
use native.Mathlib.Omega.{arith}
use lib.Count.{count_leading_zeros, leading_top}
use lib.Dec.{T}
use lib.Pow.{pow-add, pow_pos, pow_mono, pow-lt, shl_lt, shl_exact}
use lib.Ieee.{Float, binary64, mul, round, size, of_bits, fits}
use lib.Ieee.Exact.{HasValue}
use lib.Ieee.Scale.{grid, round_same, round_val}
use Rattle.meaning.specs.Root.{in_units, unsigned}
use Rattle.meaning.proofs.Values.{U_pos, mul_is}
use Rattle.root.specs.Pattern.{pattern_units}
use Rattle.root.proofs.Closest.{size_is}
use Rattle.root.proofs.Patterns.{small_pattern, large_pattern, pattern_value}
use Rattle.root.proofs.Scaling.{shift_add}
use Rattle.root.proofs.Doubles.{own_value}
use Rattle.distance_rule.specs.Distance.{leading_place, scaled_down}
use Rattle.distance_rule.proofs.Grids.{grid_same}
use Rattle.distance_rule.proofs.Roots.{sized}
use Rattle.distance_rule.proofs.Sums.{grid_exact}

-- ---- the leading place, by the pattern

less_one : (j z : ℕ) → z ≡ suc j → j ≡ z - 1
less_one j z e = omega arith

pub small_leading : (p : ℕ) → 0 < p → p < 2 ^ 52 → 63 - count_leading_zeros 64 p ≡ leading_place (pattern_units p)
small_leading p h l =
    let t = leading_top 64 p h (omega arith) in
    let j = t.0 in
    counted (count_leading_zeros 64 p) j t.1 ∙ less_one j (size p) (size_is p j t.2 t.3) ∙ ap leading_place (sym (small_pattern p l))
  where
    counted : (z j : ℕ) → z + suc j ≡ 64 → 63 - z ≡ j
    counted z j e = omega arith

pub large_leading : (p : ℕ) → 2 ^ 52 ≤ p → p / 2 ^ 52 + 51 ≡ leading_place (pattern_units p)
large_leading p h =
    let m = p % 2 ^ 52 + 2 ^ 52 in
    let x = p / 2 ^ 52 - 1 in
    let e : p / 2 ^ 52 + 51 ≡ 52 + x = omega arith in
    e ∙ less_one (52 + x) (size (m * 2 ^ x)) (sized m x (omega arith) (omega arith)) ∙ ap leading_place (sym (large_pattern p h))

-- ---- the powers, by their patterns

pub shifted : (j : ℕ) → j < 52 → (1 * 2 ^ j) % 2 ^ 64 ≡ 2 ^ j
shifted j h = shl_exact 1 j 64 (omega arith) (omega arith) ∙ one-mul (2 ^ j)

pub small_power : (j : ℕ) → j < 52 → HasValue (of_bits binary64 (2 ^ j)) false (2 ^ j) (2 ^ 1074)
small_power j h =
    let l : 2 ^ j < 2 ^ 52 = pow-lt h in
    subst (λ (n : ℕ). HasValue (of_bits binary64 (2 ^ j)) false n (2 ^ 1074)) (small_pattern (2 ^ j) l) (pattern_value (2 ^ j) (omega arith))

pub large_power : (j : ℕ) → 52 ≤ j → j < 2098 → HasValue (of_bits binary64 ((j - 51) * 2 ^ 52)) false (2 ^ j) (2 ^ 1074)
large_power j h l =
    let p = (j - 51) * 2 ^ 52 in
    let low : p % 2 ^ 52 + 2 ^ 52 ≡ 2 ^ 52 = omega arith in
    let high : p / 2 ^ 52 - 1 ≡ j - 52 = omega arith in
    let places : 52 + (j - 52) ≡ j = omega arith in
    subst (λ (n : ℕ). HasValue (of_bits binary64 p) false n (2 ^ 1074))
    (large_pattern p (omega arith) ∙ ap (λ (n : ℕ). n * 2 ^ (p / 2 ^ 52 - 1)) low ∙ ap (λ (n : ℕ). 2 ^ 52 * 2 ^ n) high ∙ sym (pow-add 2 52 (j - 52)) ∙ ap (λ (n : ℕ). 2 ^ n) places)
    (pattern_value p (omega arith))

-- ---- products of doubles without a minus sign

pub product : (x y : Float) {r : Float} (a b : ℕ) → HasValue x false a (2 ^ 1074) → HasValue y false b (2 ^ 1074) → r ≡ mul binary64 x y → r ≡ round binary64 false (a * b) (2 ^ 1074 * 2 ^ 1074)
product x y a b p q e = e ∙ mul_is binary64 x y false false a b (2 ^ 1074) U_pos p q

-- u units times 2 ^ k and then 2 ^ i units are u over 2 ^ j units
over : (u k i j : ℕ) → k + i + j ≡ 2148 → round binary64 false (u * 2 ^ k * 2 ^ i) (2 ^ 1074 * 2 ^ 1074) ≡ scaled_down j u
over u k i j e =
    round_same binary64 false (u * 2 ^ k * 2 ^ i) (2 ^ 1074 * 2 ^ 1074) u (2 ^ j) (pow_pos 2148) (pow_pos j)
    (ap (λ (n : ℕ). n * 2 ^ j) (shift_add u k i (k + i) refl) ∙ shift_add u (k + i) j 2148 e)

module _ (x : Float) (f : T (fits binary64 x)) (c : T (unsigned x)) where
  own : HasValue x false (in_units x) (2 ^ 1074)
  own = own_value x f c

  -- one power
  pub scaled_once : (p : Float) {r : Float} (j : ℕ) → j ≤ 2148 → HasValue p false (2 ^ (2148 - j)) (2 ^ 1074) → r ≡ mul binary64 x p → r ≡ scaled_down j (in_units x)
  scaled_once p j h q e =
      product x p (in_units x) (2 ^ (2148 - j)) own q e
      ∙ ap (λ (n : ℕ). round binary64 false (n * 2 ^ (2148 - j)) (2 ^ 1074 * 2 ^ 1074)) (sym (mul-one (in_units x)))
      ∙ over (in_units x) 0 (2148 - j) j (omega arith)

  -- two, the first of which changes no digit
  raised : (p : Float) {r : Float} → in_units x < 2 ^ 52 → HasValue p false (2 ^ 2097) (2 ^ 1074) → r ≡ mul binary64 x p → HasValue r false (in_units x * 2 ^ 1023) (2 ^ 1074)
  raised p h q e =
      let u = in_units x in
      let g : grid binary64 (u * 2 ^ 2097) (2 ^ 1074 * 2 ^ 1074) ≡ u * 2 ^ 1023 =
      grid_same (u * 2 ^ 2097) (2 ^ 1074 * 2 ^ 1074) (u * 2 ^ 1023) (2 ^ 1074) (pow_pos 2148) (pow_pos 1074) (shift_add u 2097 1074 3171 refl ∙ sym (shift_add u 1023 2148 3171 refl))
      ∙ grid_exact u 1023 (lt_of_lt_of_le h (pow_mono {i = 52} {j = 53} (omega arith)))
      in
      subst (λ (y : Float). HasValue y false (u * 2 ^ 1023) (2 ^ 1074)) (sym (product x p u (2 ^ 2097) own q e))
      (subst (λ (n : ℕ). HasValue (round binary64 false (u * 2 ^ 2097) (2 ^ 1074 * 2 ^ 1074)) false n (2 ^ 1074)) g
      (round_val binary64 (u * 2 ^ 2097) (2 ^ 1074 * 2 ^ 1074) (subst (λ (n : ℕ). n < 2 ^ 2098) (sym g) (lt_of_lt_of_le (shl_lt 52 1023 h) (pow_mono {i = 1075} {j = 2098} (omega arith))))))

  pub scaled_twice : (p q y : Float) {r : Float} (j : ℕ) → j < 51 → in_units x < 2 ^ suc j → HasValue p false (2 ^ 2097) (2 ^ 1074) → HasValue q false (2 ^ (1125 - j)) (2 ^ 1074)
      → y ≡ mul binary64 x p → r ≡ mul binary64 y q → r ≡ scaled_down j (in_units x)
  scaled_twice p q y j h l first second e g =
      product y q (in_units x * 2 ^ 1023) (2 ^ (1125 - j)) (raised p (lt_of_lt_of_le l (pow_mono {i = suc j} {j = 52} (omega arith))) first e) second g
      ∙ over (in_units x) 1023 (1125 - j) j (omega arith)
