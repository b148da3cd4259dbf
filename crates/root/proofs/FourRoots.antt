-- `whole_root` is the whole part of a root, and so `four_roots n` stands to twice a whole number as four times the root of n does, and grows
-- with n. Assumes nothing.
use mathlib.Core.Path.{◌≡◌, sym, subst}
use mathlib.Core.Bool.{Bool, true, false, not, cond}
use Prim.Native.Nat.{ℕ, zero, suc, ◌+◌, ◌*◌, ◌/◌, ◌^◌, ◌≤◌, ◌<◌}
use native.Mathlib.Nat.{le_of_lt, lt_of_not-le, lt_of_le_of_lt, mul-pos, mul_assoc, mul-mul-mul_comm, mul-le-mul_right, mul-lt-mul_of_pos_right, pow-suc}
use native.Mathlib.Decide.{dec_le}
use native.Mathlib.Omega.{arith}
use lib.Arith.{lt_of_le-ne}
use lib.Dec.{T, leb, eqb, leb→le, nleb→lt, eqb→eq, eqb_refl, T_not}
use lib.Ieee.{size}
use lib.Ieee.Digits.{size-lt}
use Rattle.meaning.specs.Root.{root_within, whole_root, four_roots}
use Rattle.root.proofs.Squares.{WholePart, NearestWhole, root_lt, root_le}

-- ---- the whole part of a root

-- from the root of a quarter of n: its double, or one more
step : (n s : ℕ) → WholePart (n / 4) s → WholePart n (cond (leb ((2 * s + 1) * (2 * s + 1)) n) (2 * s + 1) (2 * s))
step n s h = go (leb ((2 * s + 1) * (2 * s + 1)) n) (leb→le ((2 * s + 1) * (2 * s + 1)) n) (nleb→lt ((2 * s + 1) * (2 * s + 1)) n)
  where
    go : (b : Bool) → (T b → (2 * s + 1) * (2 * s + 1) ≤ n) → (T (not b) → n < (2 * s + 1) * (2 * s + 1)) → WholePart n (cond b (2 * s + 1) (2 * s))
    go true x y = (x tt, omega arith)
    go false x y = (omega arith, y tt)

quarter : (n p : ℕ) → n < p * 2 → n / 4 < p
quarter n p h = omega arith

within : (k n : ℕ) → n < 2 ^ k → WholePart n (root_within k n)
unfolding root_within
within zero n h = omega arith
within (suc k) n h = step n (root_within k (n / 4)) (within k (n / 4) (quarter n (2 ^ k) (subst (λ (x : ℕ). n < x) (pow-suc 2 k) h)))

whole_root_is : (n : ℕ) → WholePart n (whole_root n)
unfolding whole_root
whole_root_is n = within (size n) n (size-lt n)

-- so there is a whole number nearest to a root
pub nearest_whole : (n : ℕ) → 0 < n → (q : ℕ) × NearestWhole n q
nearest_whole n p = go (whole_root n) (whole_root_is n) (dec_le n (whole_root n * whole_root n + whole_root n))
  where
    down : (s : ℕ) → s * s ≤ n → n ≤ s * s + s → NearestWhole n s
    down zero a l = omega arith
    down (suc s) a l = omega arith

    up : (s : ℕ) → n < (s + 1) * (s + 1) → s * s + s < n → NearestWhole n (s + 1)
    up s b l = omega arith

    go : (s : ℕ) → WholePart n s → Dec (n ≤ s * s + s) → (q : ℕ) × NearestWhole n q
    go s w (yes l) = (s, down s w.0 l)
    go s w (no f) = (s + 1, up s w.1 (lt_of_not-le f))

-- ---- `four_roots n` beside twice a whole number

module _ (n h : ℕ) where
  whole : WholePart (4 * n) (whole_root (4 * n))
  whole = whole_root_is (4 * n)

  at_least_lem : h * h ≤ 4 * n → 2 * h ≤ four_roots n
  unfolding four_roots
  at_least_lem k = omega (arith, root_le h (whole_root (4 * n)) (lt_of_le_of_lt k whole.1))

  less : 4 * n < h * h → four_roots n < 2 * h
  unfolding four_roots
  less k = go (eqb (whole_root (4 * n) * whole_root (4 * n)) (4 * n)) (root_lt (whole_root (4 * n)) h (lt_of_le_of_lt whole.0 k))
    where
      go : (b : Bool) → whole_root (4 * n) < h → 2 * whole_root (4 * n) + cond b 0 1 < 2 * h
      go true l = omega arith
      go false l = omega arith

  more : h * h < 4 * n → 2 * h < four_roots n
  unfolding four_roots
  more k = go (eqb (whole_root (4 * n) * whole_root (4 * n)) (4 * n)) (eqb→eq (whole_root (4 * n) * whole_root (4 * n)) (4 * n))
    where
      go : (b : Bool) → (T b → whole_root (4 * n) * whole_root (4 * n) ≡ 4 * n) → 2 * h < 2 * whole_root (4 * n) + cond b 0 1
      go true e = omega (arith, root_lt h (whole_root (4 * n)) (subst (λ (x : ℕ). h * h < x) (sym (e tt)) k))
      go false e = omega (arith, root_le h (whole_root (4 * n)) (lt_of_le_of_lt (le_of_lt k) whole.1))

-- It is twice j where the square of j is 4 * n, and otherwise one more. What is larger reaches the one by `at_least_lem` and the other by `more`.
pub grows : (n p : ℕ) → n ≤ p → four_roots n ≤ four_roots p
unfolding four_roots
grows n p h = go (eqb (j * j) (4 * n)) (eqb→eq (j * j) (4 * n)) (differ (j * j) (4 * n))
  where
    j : ℕ
    j = whole_root (4 * n)

    differ : (a b : ℕ) → T (not (eqb a b)) → a ≡ b → ⊥
    differ a b t e = T_not (eqb a b) t (subst (λ (x : ℕ). T (eqb a x)) e (eqb_refl a))

    go : (b : Bool) → (T b → j * j ≡ 4 * n) → (T (not b) → j * j ≡ 4 * n → ⊥) → 2 * j + cond b 0 1 ≤ four_roots p
    go true e d = omega (arith, at_least_lem p j (omega (arith, e tt)))
    go false e d = omega (arith, more p j (omega (arith, lt_of_le-ne (whole_root_is (4 * n)).0 (d tt))))

-- ---- the same in units of k: beside multiples of k, for n * k * k

module _ (n k : ℕ) (positive : 0 < k) (h : ℕ) where
  pub at_least_by : h * h ≤ 4 * n → 2 * (h * k) ≤ four_roots (n * (k * k))
  at_least_by l = at_least_lem _ _ (rw (mul-mul-mul_comm h k h k, ← mul_assoc 4 n (k * k)) (mul-le-mul_right (k * k) l))

  pub less_by : 4 * n < h * h → four_roots (n * (k * k)) < 2 * (h * k)
  less_by l = less _ _ (rw (mul-mul-mul_comm h k h k, ← mul_assoc 4 n (k * k)) (mul-lt-mul_of_pos_right l (mul-pos positive positive)))

  more_by : h * h < 4 * n → 2 * (h * k) < four_roots (n * (k * k))
  more_by l = more _ _ (rw (mul-mul-mul_comm h k h k, ← mul_assoc 4 n (k * k)) (mul-lt-mul_of_pos_right l (mul-pos positive positive)))

-- where q is nearest to the root of n, four times the root of n * k * k is less than 2 * k away from four times q * k
module _ (n k : ℕ) (positive : 0 < k) (q : ℕ) (near : NearestWhole n q) where
  pub not_above_lem : four_roots (n * (k * k)) < 4 * (q * k) + 2 * k
  not_above_lem = omega (arith, less_by n k positive (2 * q + 1) (omega arith))

  pub not_below : 4 * (q * k) < four_roots (n * (k * k)) + 2 * k
  not_below = go q near.1
    where
      go : (q : ℕ) → q * q < n + q → 4 * (q * k) < four_roots (n * (k * k)) + 2 * k
      go zero l = omega arith
      go (suc p) l = omega (arith, more_by n k positive (2 * p + 1) (omega arith))
