-- A positive double as m * 2 ^ a with an m of 53 digits, as `parts` answers it: for a subnormal by its leading zeros, for any other by the
-- fields of its pattern. And what becomes of m where the last place of a goes to it. Assumes nothing.
use mathlib.Core.Path.{◌≡◌, refl, sym, ap, ◌∙◌, subst}
use Prim.Native.Nat.{ℕ, zero, suc, ◌+◌, ◌-◌, ◌*◌, ◌/◌, ◌%◌, ◌^◌, ◌≤◌, ◌<◌}
use native.Mathlib.Nat.{le_trans, le_of_eq, lt_of_not-le, lt_of_le_of_lt, not-le_of_lt, mul_assoc, mul-le-mul_right}
use native.Mathlib.Decide.{dec_le}
use native.Mathlib.Omega.{arith}
use lib.Pow.{pow-add, pow_mono, shl_lt, shl_exact}
use lib.Count.{count_leading_zeros, leading_top}
use Rattle.root.specs.Pattern.{pattern_units}
use Rattle.root.proofs.Patterns.{small_pattern, large_pattern}

pub shift_add : (b x y k : ℕ) → x + y ≡ k → b * 2 ^ x * 2 ^ y ≡ b * 2 ^ k
shift_add b x y k e = mul_assoc b (2 ^ x) (2 ^ y) ∙ ap (λ (n : ℕ). b * n) (sym (pow-add 2 x y) ∙ ap (λ (n : ℕ). 2 ^ n) e)

pub pow_below : (i j n : ℕ) → 2 ^ i ≤ n → n < 2 ^ j → i < j
pow_below i j n h k = lt_of_not-le (λ (g : j ≤ i). not-le_of_lt (lt_of_le_of_lt h k) (pow_mono g))

-- the double with the pattern b is m * 2 ^ a in units that are 2 ^ 1022 times smaller than the smallest double
abbrev pub Scales : ℕ → ℕ → ℕ → Type 0
Scales b m a = (2 ^ 52 ≤ m) × (m < 2 ^ 53) × (a ≤ 3067) × (m * 2 ^ a ≡ pattern_units b * 2 ^ 1022)

pub normal : (b : ℕ) → 2 ^ 52 ≤ b → b < 0x7ff0_0000_0000_0000 → Scales b (b % 2 ^ 52 + 2 ^ 52) (b / 2 ^ 52 + 1021)
normal b h k =
    let x : b / 2 ^ 52 - 1 + 1022 ≡ b / 2 ^ 52 + 1021 = omega arith in
    let v : pattern_units b * 2 ^ 1022 ≡ (b % 2 ^ 52 + 2 ^ 52) * 2 ^ (b / 2 ^ 52 + 1021) =
    ap (λ (n : ℕ). n * 2 ^ 1022) (large_pattern b h) ∙ shift_add (b % 2 ^ 52 + 2 ^ 52) (b / 2 ^ 52 - 1) 1022 (b / 2 ^ 52 + 1021) x
    in
    (omega arith, omega arith, omega arith, sym v)

-- a subnormal with z leading zeros, moved up by z - 11 places, so that 11 are left
pub record Raised (b z : ℕ) : Type 0 where
  pub least : 12 ≤ z
  pub most : z ≤ 63
  pub exact : (b * 2 ^ (z - 11)) % 2 ^ 64 ≡ b * 2 ^ (z - 11)
  pub scales : Scales b (b * 2 ^ (z - 11)) (1033 - z)

-- j is the place of the leading digit
by_place : (b z j : ℕ) → b < 2 ^ 52 → z + suc j ≡ 64 → j < 52 → 2 ^ j ≤ b → b < 2 ^ suc j → Raised b z
by_place b z j small e h lo hi =
    let u : z - 11 ≡ 52 - j = omega arith in
    let all : j + (52 - j) ≡ 52 = omega arith in
    let more : suc j + (52 - j) ≡ 53 = omega arith in
    record {
      least = omega arith;
      most = omega arith;
      exact = rw u (shl_exact (suc j) (52 - j) 64 hi (omega arith));
      scales = (
        rw u (le_trans (le_of_eq (sym (sym (pow-add 2 j (52 - j)) ∙ ap (λ (n : ℕ). 2 ^ n) all))) (mul-le-mul_right (2 ^ (52 - j)) lo)),
        rw u (subst (λ (x : ℕ). b * 2 ^ (52 - j) < 2 ^ x) more (shl_lt (suc j) (52 - j) hi)),
        omega arith,
        shift_add b (z - 11) (1033 - z) 1022 (omega arith) ∙ ap (λ (n : ℕ). n * 2 ^ 1022) (sym (small_pattern b small)),
      );
    }

pub raised : (b : ℕ) → 0 < b → b < 2 ^ 52 → Raised b (count_leading_zeros 64 b)
raised b p h =
    let t = leading_top 64 b p (omega arith) in
    by_place b (count_leading_zeros 64 b) t.0 h t.1 (pow_below t.0 52 b t.2 h) t.2 t.3

-- so each positive double has its m and a
pub scaled_of : (b : ℕ) → 0 < b → b < 0x7ff0_0000_0000_0000 → (m : ℕ) × (a : ℕ) × Scales b m a
scaled_of b p k = go (dec_le (2 ^ 52) b)
  where
    go : Dec (2 ^ 52 ≤ b) → (m : ℕ) × (a : ℕ) × Scales b m a
    go (yes h) = (_, _, normal b h k)
    go (no f) = (_, _, (raised b p (lt_of_not-le f)).scales)

-- ---- the last place of a goes to m

pub record Moved (m o : ℕ) : Type 0 where
  pub exact : (m * 2 ^ o) % 2 ^ 64 ≡ m * 2 ^ o
  pub least : 2 ^ 52 ≤ m * 2 ^ o
  pub most : m * 2 ^ o ≤ 2 ^ 54 - 2

pub moved : (m o : ℕ) → 2 ^ 52 ≤ m → m < 2 ^ 53 → o < 2 → Moved m o
moved m zero lo hi h = record { exact = shl_exact 53 0 64 hi (omega arith); least = omega arith; most = omega arith }
moved m (suc zero) lo hi h = record { exact = shl_exact 53 1 64 hi (omega arith); least = omega arith; most = omega arith }
moved m (suc (suc o)) lo hi h = absurd (omega arith)

-- then the number that the root is taken of is a whole number n = m * 2 ^ (a % 2) * 2 ^ 52 of squares of 2 ^ (a / 2) units
pub split : (v m a : ℕ) → m * 2 ^ a ≡ v * 2 ^ 1022 → v * 2 ^ 1074 ≡ m * 2 ^ (a % 2) * 2 ^ 52 * (2 ^ (a / 2) * 2 ^ (a / 2))
split v m a e =
    let halved : a % 2 + 52 + (a / 2 + a / 2) ≡ a + 52 = omega arith in
    sym (shift_add v 1022 52 1074 refl)
    ∙ ap (λ (x : ℕ). x * 2 ^ 52) (sym e)
    ∙ shift_add m a 52 (a + 52) refl
    ∙ sym (shift_add m (a % 2 + 52) (a / 2 + a / 2) (a + 52) halved)
    ∙ ap (λ (x : ℕ). m * 2 ^ (a % 2 + 52) * x) (pow-add 2 (a / 2) (a / 2))
    ∙ ap (λ (x : ℕ). x * (2 ^ (a / 2) * 2 ^ (a / 2))) (sym (shift_add m (a % 2) 52 (a % 2 + 52) refl))
