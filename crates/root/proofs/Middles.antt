-- The middles between a root's nearest double and the others. In units the double is q * 2 ^ g, the square of the root n * 2 ^ g * 2 ^ g, and
-- any other double o * 2 ^ j, for an o of at most 53 digits: the root lies on the first one's side of the middle. Assumes nothing.
use mathlib.Core.Path.{◌≡◌, sym, ap, ◌∙◌}
use Prim.Native.Nat.{ℕ, zero, suc, ◌+◌, ◌-◌, ◌*◌, ◌^◌, ◌≤◌, ◌<◌}
use native.Mathlib.Nat.{le_trans, le_of_eq, le_of_lt, le_antisymm, lt_of_le_of_lt, lt_of_lt_of_le, lt_of_not-le, mul-pos, mul_assoc, mul-le-mul_left, mul-le-mul_right, mul-lt-mul_of_pos_right, lt_of_mul-lt-mul_right, mul-mul-mul_comm, suc-mul}
use native.Mathlib.Decide.{dec_le}
use native.Mathlib.Omega.{arith}
use lib.Pow.{pow-add, pow_pos, pow_mono, shl_lt}
use Rattle.root.proofs.Scaling.{shift_add, pow_below}
use Rattle.root.proofs.Squares.{NearestWhole, sq_mono, sq_lt}

-- ---- the other double is at least one place, 2 ^ g, away

multiple : (o j g : ℕ) → g ≤ j → o * 2 ^ (j - g) * 2 ^ g ≡ o * 2 ^ j
multiple o j g h = shift_add o (j - g) g j (omega arith)

-- Above q * 2 ^ g, which has 53 digits, all doubles are multiples of 2 ^ g.
gap-above : (q g o j : ℕ) → 2 ^ 52 ≤ q → o < 2 ^ 53 → q * 2 ^ g < o * 2 ^ j → q * 2 ^ g + 2 ^ g ≤ o * 2 ^ j
gap-above q g o j h k l =
    let reaches : 2 ^ (52 + g) ≤ q * 2 ^ g = le_trans (le_of_eq (pow-add 2 52 g)) (mul-le-mul_right (2 ^ g) h) in
    let low : g ≤ j = omega (arith, pow_below (52 + g) (53 + j) (o * 2 ^ j) (le_trans reaches (le_of_lt l)) (shl_lt 53 j k)) in
    let m = multiple o j g low in
    le_trans (le_of_eq (sym (suc-mul q (2 ^ g))))
    (le_trans (mul-le-mul_right (2 ^ g) (lt_of_mul-lt-mul_right (2 ^ g) (lt_of_lt_of_le l (le_of_eq (sym m))))) (le_of_eq m))

-- Below it they are too, unless q is 2 ^ 52 and so the first that has 53 digits.
gap_below : (q g o j : ℕ) → 2 ^ 52 < q → o < 2 ^ 53 → o * 2 ^ j < q * 2 ^ g → o * 2 ^ j + 2 ^ g ≤ q * 2 ^ g
gap_below q g o j h k l = go (dec_le g j)
  where
    go : Dec (g ≤ j) → o * 2 ^ j + 2 ^ g ≤ q * 2 ^ g
    go (yes low) =
        let m = multiple o j g low in
        le_trans (le_of_eq (ap (λ (x : ℕ). x + 2 ^ g) (sym m) ∙ sym (suc-mul (o * 2 ^ (j - g)) (2 ^ g))))
        (mul-le-mul_right (2 ^ g) (lt_of_mul-lt-mul_right (2 ^ g) (lt_of_le_of_lt (le_of_eq m) l)))
    go (no f) =
        let a : o * 2 ^ j < 2 ^ (53 + j) = shl_lt 53 j k in
        let b : 2 ^ (53 + j) ≤ 2 ^ (52 + g) = pow_mono (omega (arith, lt_of_not-le f)) in
        omega (arith, pow-add 2 52 g, mul-le-mul_right (2 ^ g) h)

-- ---- the sides, for k in the place of 2 ^ g

side_above : (n q k y : ℕ) → 0 < k → n ≤ q * q + q → q * k + k ≤ y → 4 * (n * (k * k)) < (y + q * k) * (y + q * k)
side_above n q k y p h l =
    let c : 4 * n < (2 * q + 1) * (2 * q + 1) = omega arith in
    let s : (2 * q + 1) * k ≤ y + q * k = omega arith in
    lt_of_le_of_lt (le_of_eq (sym (mul_assoc 4 n (k * k))))
    (lt_of_lt_of_le (mul-lt-mul_of_pos_right c (mul-pos p p))
    (le_trans (le_of_eq (sym (mul-mul-mul_comm (2 * q + 1) k (2 * q + 1) k))) (sq_mono ((2 * q + 1) * k) (y + q * k) s)))

-- where q was rounded up
side_below : (n q k y : ℕ) → 0 < k → q * q < n + q → y + k ≤ q * k → (y + q * k) * (y + q * k) < 4 * (n * (k * k))
side_below n zero k y pos h l = absurd (omega arith)
side_below n (suc p) k y pos h l =
    let c : (2 * p + 1) * (2 * p + 1) < 4 * n = omega arith in
    let s : y + suc p * k ≤ (2 * p + 1) * k = omega arith in
    lt_of_le_of_lt (sq_mono (y + suc p * k) ((2 * p + 1) * k) s)
    (lt_of_le_of_lt (le_of_eq (mul-mul-mul_comm (2 * p + 1) k (2 * p + 1) k))
    (lt_of_lt_of_le (mul-lt-mul_of_pos_right c (mul-pos pos pos)) (le_of_eq (mul_assoc 4 n (k * k)))))

-- where q was not, the other double's distance does not matter
side_below_cut : (n q k y : ℕ) → q * q ≤ n → y < q * k → (y + q * k) * (y + q * k) < 4 * (n * (k * k))
side_below_cut n q k y h l =
    lt_of_lt_of_le (sq_lt (y + q * k) (2 * (q * k)) (omega arith))
    (le_trans (le_of_eq (mul-mul-mul_comm 2 (q * k) 2 (q * k)))
    (mul-le-mul_left 4 (le_trans (le_of_eq (mul-mul-mul_comm q k q k)) (mul-le-mul_right (k * k) h))))

-- ---- together

module _ (n q g : ℕ) (large : 2 ^ 52 ≤ q) (least : 2 ^ 104 ≤ n) (near : NearestWhole n q) (o j : ℕ) (small : o < 2 ^ 53) where
  pub middle_above : q * 2 ^ g < o * 2 ^ j → 4 * (n * (2 ^ g * 2 ^ g)) < (o * 2 ^ j + q * 2 ^ g) * (o * 2 ^ j + q * 2 ^ g)
  middle_above l = side_above n q (2 ^ g) (o * 2 ^ j) (pow_pos g) near.0 (gap-above q g o j large small l)

  pub middle_below : o * 2 ^ j < q * 2 ^ g → (o * 2 ^ j + q * 2 ^ g) * (o * 2 ^ j + q * 2 ^ g) < 4 * (n * (2 ^ g * 2 ^ g))
  middle_below l = go (dec_le (q * q) n)
    where
      -- the least q is not rounded up, since the least n is its square
      larger : (q * q ≤ n → ⊥) → 2 ^ 52 < q
      larger f = lt_of_not-le (λ (h : q ≤ 2 ^ 52). f (le_trans (le_of_eq (ap (λ (z : ℕ). z * z) (le_antisymm h large))) least))

      go : Dec (q * q ≤ n) → (o * 2 ^ j + q * 2 ^ g) * (o * 2 ^ j + q * 2 ^ g) < 4 * (n * (2 ^ g * 2 ^ g))
      go (yes h) = side_below_cut n q (2 ^ g) (o * 2 ^ j) h l
      go (no f) = side_below n q (2 ^ g) (o * 2 ^ j) (pow_pos g) near.1 (gap_below q g o j (larger f) small l)
