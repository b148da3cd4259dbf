-- The root of n * 4 ^ g units, rounded to a double, is q * 2 ^ g units, for the q that is nearest to the root of n. Assumes nothing.
use mathlib.Core.Path.{◌≡◌, ap, ◌∙◌}
use Prim.Native.Nat.{ℕ, suc, ◌+◌, ◌-◌, ◌*◌, ◌/◌, ◌^◌, ◌≤◌, ◌<◌}
use native.Mathlib.Nat.{mul-pos, mul_comm, mul_assoc, mul_left_comm, mul-div-mul_right, pow-suc, le-div_iff_mul-le, div-lt_iff_lt-mul, zero-lt-suc}
use native.Mathlib.Omega.{arith}
use lib.Pow.{pow-add, pow_pos}
use lib.Ieee.{binary64, size}
use lib.Ieee.Nearest.{closest, closest_same}
use lib.Ieee.Scale.{grid}
use Rattle.meaning.specs.Root.{four_roots}
use Rattle.root.proofs.Squares.{NearestWhole}
use Rattle.root.proofs.FourRoots.{at_least_by, less_by, not_above_lem, not_below}
use Rattle.root.proofs.Closest.{closest_is, size_is}

-- h / 4 to 53 digits
abbrev quarters : ℕ → ℕ
quarters h = closest h (4 * 2 ^ (size (h / 4) - 53)) * 2 ^ (size (h / 4) - 53)

-- `round` takes the fraction in units, which multiplies both of its parts by the same l
in_units_lem : (l h : ℕ) → 0 < l → closest (h * l) (4 * l * 2 ^ (size (h * l / (4 * l)) - 53)) * 2 ^ (size (h * l / (4 * l)) - 53) ≡ quarters h
in_units_lem l h p =
    let k = size (h / 4) - 53 in
    ap (λ (z : ℕ). closest (h * l) (4 * l * 2 ^ (size z - 53)) * 2 ^ (size z - 53)) (mul-div-mul_right h 4 p)
    ∙ ap (λ (z : ℕ). z * 2 ^ k)
    (closest_same (h * l) (4 * l * 2 ^ k) h (4 * 2 ^ k) (mul-pos (mul-pos (zero-lt-suc 3) p) (pow_pos k)) (mul-pos (zero-lt-suc 3) (pow_pos k))
    (simp (mul_assoc, mul_comm, mul_left_comm)))

module _ (n g q : ℕ) (least : 2 ^ 104 ≤ n) (most : n < 2 ^ 106) (near : NearestWhole n q) where
  dropped : size (four_roots (n * (2 ^ g * 2 ^ g)) / 4) - 53 ≡ g
  dropped =
      ap (λ (x : ℕ). x - 53)
      (size_is (four_roots (n * (2 ^ g * 2 ^ g)) / 4) (52 + g)
      ((le-div_iff_mul-le (zero-lt-suc 3)).1 (omega (arith, at_least_by n (2 ^ g) (pow_pos g) (2 ^ 53) (omega arith), pow-add 2 52 g)))
      ((div-lt_iff_lt-mul (zero-lt-suc 3)).1 (omega (arith, less_by n (2 ^ g) (pow_pos g) (2 ^ 54) (omega arith), pow-suc 2 (52 + g), pow-add 2 52 g))))
      ∙ left g
    where
      left : (g : ℕ) → suc (52 + g) - 53 ≡ g
      left g = omega arith

  kept : closest (four_roots (n * (2 ^ g * 2 ^ g))) (4 * 2 ^ g) ≡ q
  kept =
      closest_is (four_roots (n * (2 ^ g * 2 ^ g))) (4 * 2 ^ g) q (mul-pos (zero-lt-suc 3) (pow_pos g))
      (omega (arith, not_below n (2 ^ g) (pow_pos g) q near))
      (omega (arith, not_above_lem n (2 ^ g) (pow_pos g) q near))

  pub root_grid : grid binary64 (four_roots (n * (2 ^ g * 2 ^ g))) (4 * 2 ^ 1074) ≡ q * 2 ^ g
  root_grid =
      in_units_lem (2 ^ 1074) (four_roots (n * (2 ^ g * 2 ^ g))) (pow_pos 1074)
      ∙ ap (λ (d : ℕ). closest (four_roots (n * (2 ^ g * 2 ^ g))) (4 * 2 ^ d) * 2 ^ d) dropped
      ∙ ap (λ (x : ℕ). x * 2 ^ g) kept
