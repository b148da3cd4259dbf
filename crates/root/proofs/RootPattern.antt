-- From the digits of a root to the double: where q is nearest to the root, the pattern that `root_bits` writes is that of `root_of`.
-- Assumes nothing.
use mathlib.Core.Path.{◌≡◌, refl, sym, ap, ◌∙◌, subst}
use mathlib.Core.Bool.{true, false}
use Prim.Native.Nat.{ℕ, zero, suc, ◌+◌, ◌-◌, ◌*◌, ◌/◌, ◌%◌, ◌^◌, ◌≤◌, ◌<◌}
use native.Mathlib.Nat.{lt_of_lt_of_le, lt_of_not-le, lt_irrefl, le_dest, mul-le-mul_left, mod-lt, mul-pos, zero-mul}
use native.Mathlib.Omega.{arith}
use lib.Dec.{T}
use lib.Pow.{pow_mono, pow_pos, shl_lt}
use lib.Ieee.{Float, nan, inf, fin, binary64, up, down, of_bits, round}
use lib.Ieee.Bits.{of_bits-fits}
use lib.Ieee.Exact.{HasValue}
use lib.Ieee.Fits.{down_pos}
use lib.Ieee.Scale.{round_val}
use Rattle.meaning.specs.Root.{root_squared, four_roots, root_of}
use Rattle.root.specs.Pattern.{pattern_units}
use Rattle.root.proofs.Squares.{NearestWhole}
use Rattle.root.proofs.Rounding.{root_grid}
use Rattle.root.proofs.Patterns.{large_pattern, pattern_value}
use Rattle.root.proofs.Scaling.{Scales, Moved, moved, split}
use Rattle.root.proofs.Doubles.{units_of, same_value}
use Rattle.root.proofs.Range.{rounded, root-fits}

-- ---- `root_of` of a positive double

no_units : (u d v : ℕ) → 0 < d → 0 < v → 0 * u * 2 ^ 1074 ≡ v * d → ⊥
no_units u d v p q e = lt_irrefl 0 (subst (λ (n : ℕ). 0 < n) (sym e ∙ ap (λ (n : ℕ). n * 2 ^ 1074) (zero-mul u) ∙ zero-mul (2 ^ 1074)) (mul-pos q p))

root_is : (x : Float) (v : ℕ) → HasValue x false v (2 ^ 1074) → 0 < v → root_of x ≡ rounded x
unfolding root_of
root_is nan v h p = absurd h
root_is (inf s) v h p = absurd h
root_is (fin true m e) v h p = absurd (subst T h.0 tt)
root_is (fin false zero e) v h p = absurd (no_units (up e) (down e) v (down_pos e) p h.1)
root_is (fin false (suc m) e) v h p = refl

pub root_squared_is : (x : Float) (v : ℕ) → HasValue x false v (2 ^ 1074) → root_squared x ≡ v * 2 ^ 1074
unfolding root_squared
root_squared_is x v h = ap (λ (n : ℕ). n * 2 ^ 1074) (units_of x v h)

positive_units : (v m a : ℕ) → 0 < m → m * 2 ^ a ≡ v * 2 ^ 1022 → 0 < v
positive_units zero m a h e = absurd (lt_irrefl 0 (subst (λ (n : ℕ). 0 < n) (e ∙ zero-mul (2 ^ 1022)) (mul-pos h (pow_pos a))))
positive_units (suc v) m a h e = omega arith

-- ---- the nearest whole number has 53 digits

digits_least : (n q : ℕ) → 2 ^ 52 ≤ n → n * 2 ^ 52 ≤ q * q + q → 2 ^ 52 ≤ q
digits_least n q h k =
    let t : 2 ^ 52 < q + 1 = lt_of_not-le (λ (g : q + 1 ≤ 2 ^ 52). omega (arith, mul-le-mul_left q g)) in
    omega arith

-- The largest n leaves room for it. With k for 2 ^ 53, since the numbers are too large otherwise.
no_room_lem : (k d t : ℕ) → 1 ≤ k → t + k ≤ k * k → (k + d) * (k + d) < t + (k + d) → ⊥
no_room_lem k d t p h l = omega (arith, mul-le-mul_left d p)

digits_most : (n q : ℕ) → n ≤ 2 ^ 54 - 2 → q * q < n * 2 ^ 52 + q → q < 2 ^ 53
digits_most n q h k = lt_of_not-le (λ (g : 2 ^ 53 ≤ q). past (le_dest g).0 (le_dest g).1)
  where
    room : (n : ℕ) → n ≤ 2 ^ 54 - 2 → n * 2 ^ 52 + 2 ^ 53 ≤ 2 ^ 53 * 2 ^ 53
    room n h = omega arith

    past : (d : ℕ) → 2 ^ 53 + d ≡ q → ⊥
    past d e = no_room_lem (2 ^ 53) d (n * 2 ^ 52) (omega arith) (room n h) (subst (λ (x : ℕ). x * x < n * 2 ^ 52 + x) (sym e) k)

-- ---- the value of the root, and of the pattern

rounded_value : (n g q : ℕ) → g ≤ 1533 → q < 2 ^ 53 → 2 ^ 104 ≤ n → n < 2 ^ 106 → NearestWhole n q
    → HasValue (round binary64 false (four_roots (n * (2 ^ g * 2 ^ g))) (4 * 2 ^ 1074)) false (q * 2 ^ g) (2 ^ 1074)
rounded_value n g q few small least most near =
    let e = root_grid n g q least most near in
    subst (λ (v : ℕ). HasValue (round binary64 false (four_roots (n * (2 ^ g * 2 ^ g))) (4 * 2 ^ 1074)) false v (2 ^ 1074)) e
    (round_val binary64 (four_roots (n * (2 ^ g * 2 ^ g))) (4 * 2 ^ 1074)
    (subst (λ (v : ℕ). v < 2 ^ 2098) (sym e) (lt_of_lt_of_le (shl_lt 53 g small) (pow_mono {i = 53 + g} {j = 2098} (omega arith)))))

pattern_of : (g q : ℕ) → 2 ^ 52 ≤ q → q < 2 ^ 53 → pattern_units (g * 2 ^ 52 + q) ≡ q * 2 ^ g
pattern_of g q lo hi =
    let low : (g * 2 ^ 52 + q) % 2 ^ 52 + 2 ^ 52 ≡ q = omega arith in
    let high : (g * 2 ^ 52 + q) / 2 ^ 52 - 1 ≡ g = omega arith in
    large_pattern (g * 2 ^ 52 + q) (omega arith)
    ∙ ap (λ (x : ℕ). x * 2 ^ ((g * 2 ^ 52 + q) / 2 ^ 52 - 1)) low
    ∙ ap (λ (x : ℕ). q * 2 ^ x) high

-- the number that q is the root of
abbrev pub radicand : ℕ → ℕ → ℕ
radicand m a = m * 2 ^ (a % 2) * 2 ^ 52

pub shift : (b m a : ℕ) → Scales b m a → Moved m (a % 2)
shift b m a s = moved m (a % 2) s.0 s.1 (mod-lt a (omega arith))

pub radicand_range : (b m a : ℕ) → Scales b m a → (2 ^ 104 ≤ radicand m a) × (radicand m a < 2 ^ 106)
radicand_range b m a s = range (m * 2 ^ (a % 2)) (shift b m a s).least (shift b m a s).most
  where
    range : (n : ℕ) → 2 ^ 52 ≤ n → n ≤ 2 ^ 54 - 2 → (2 ^ 104 ≤ n * 2 ^ 52) × (n * 2 ^ 52 < 2 ^ 106)
    range n h k = (omega arith, omega arith)

module _ (b m a q : ℕ) (finite : b < 0x7ff0_0000_0000_0000) (scales : Scales b m a) (near : NearestWhole (radicand m a) q) where
  pub root_least : 2 ^ 52 ≤ q
  root_least = digits_least (m * 2 ^ (a % 2)) q (shift b m a scales).least near.0

  root_most : q < 2 ^ 53
  root_most = digits_most (m * 2 ^ (a % 2)) q (shift b m a scales).most near.1

  pub root_squared_of : root_squared (of_bits binary64 b) ≡ radicand m a * (2 ^ (a / 2) * 2 ^ (a / 2))
  root_squared_of = root_squared_is (of_bits binary64 b) (pattern_units b) (pattern_value b finite) ∙ split (pattern_units b) m a scales.3

  one_rounding : root_of (of_bits binary64 b) ≡ rounded (of_bits binary64 b)
  one_rounding = root_is (of_bits binary64 b) (pattern_units b) (pattern_value b finite) (positive_units (pattern_units b) m a (omega (arith, scales.0)) scales.3)

  pub root-value : HasValue (root_of (of_bits binary64 b)) false (q * 2 ^ (a / 2)) (2 ^ 1074)
  root-value =
      subst (λ (y : Float). HasValue y false (q * 2 ^ (a / 2)) (2 ^ 1074))
      (sym (one_rounding ∙ ap (λ (s : ℕ). round binary64 false (four_roots s) (4 * 2 ^ 1074)) root_squared_of))
      (rounded_value (radicand m a) (a / 2) q (omega (arith, scales.2)) root_most (radicand_range b m a scales).0 (radicand_range b m a scales).1 near)

  pub pattern_below : a / 2 * 2 ^ 52 + q < 0x7ff0_0000_0000_0000
  pattern_below = omega (arith, scales.2, root_most)

  pub pattern_is : of_bits binary64 (a / 2 * 2 ^ 52 + q) ≡ root_of (of_bits binary64 b)
  pattern_is =
      same_value (of_bits binary64 (a / 2 * 2 ^ 52 + q)) (root_of (of_bits binary64 b)) (q * 2 ^ (a / 2)) (of_bits-fits binary64 (a / 2 * 2 ^ 52 + q)) (root-fits (of_bits binary64 b))
      (subst (λ (u : ℕ). HasValue (of_bits binary64 (a / 2 * 2 ^ 52 + q)) false u (2 ^ 1074)) (pattern_of (a / 2) q root_least root_most)
      (pattern_value (a / 2 * 2 ^ 52 + q) pattern_below))
      root-value
