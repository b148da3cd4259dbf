-- One rounding: how far the nearest double lies from a fraction, as bounds between whole numbers. Assumes nothing.
use mathlib.Core.Path.{◌≡◌, sym, subst}
use mathlib.Core.Logic.{inl, inr}
use Prim.Native.Nat.{ℕ, ◌+◌, ◌-◌, ◌*◌, ◌/◌, ◌%◌, ◌^◌, ◌≤◌, ◌<◌, compare, Ordering}
use native.Mathlib.Nat.{le_trans, le_of_eq, div-add-mod', mul-le-mul_right, mod-lt, mul-pos, le-div_iff_mul-le, eq-zero-or-pos, lt_of_mul-lt-mul_right, le_of_mul-le-mul_right}
use native.Mathlib.Omega.{arith}
use lib.Dec.{T, is_le, compare_is_eq, eqb, leb→le, nleb→lt, eqb→eq, eqb_refl}
use lib.Arith.{lt_of_le-ne}
use mathlib.Core.Bool.{not}
use lib.Ieee.{nearest, size}
use lib.Pow.{pow-add, pow_pos}
use lib.Ieee.Digits.{size_reaches}
use lib.Ieee.Nearest.{closest}
use lib.Ieee.Order.{drop, kept}

-- 2 ^ 53 and 2 ^ 52: a double keeps 53 digits
abbrev pub P : ℕ
P = 2 ^ 53

abbrev pub H : ℕ
H = 2 ^ 52

-- ---- what `compare` says
abbrev Cmp : Ordering → ℕ → ℕ → Type 0
Cmp Ordering.lt a b = a < b
Cmp Ordering.eq a b = a ≡ b
Cmp Ordering.gt a b = b < a

cmp : (a b : ℕ) → Cmp (compare a b) a b
cmp a b = go (compare a b) (leb→le a b) (nleb→lt a b) (eqb→eq a b) (λ (e : a ≡ b). subst (λ (x : ℕ). T (eqb a x)) e (eqb_refl a))
  where
    go : (o : Ordering) → (T (is_le o) → a ≤ b) → (T (not (is_le o)) → b < a) → (T (compare_is_eq o) → a ≡ b) → (a ≡ b → T (compare_is_eq o)) → Cmp o a b
    go Ordering.lt h k e n = lt_of_le-ne (h tt) n
    go Ordering.eq h k e n = e tt
    go Ordering.gt h k e n = k tt

-- g is within e of x
pub record Within (e g x : ℕ) : Type 0 where
  pub above : g ≤ x + e
  pub below : x ≤ g + e

tie : (w b r : ℕ) → r * 2 ≡ b → Within b ((w + w % 2) * b * 2) ((w * b + r) * 2)
tie w b r e = go (w % 2) (small w)
  where
    small : (n : ℕ) → n % 2 ≤ 1
    small n = omega arith

    go : (c : ℕ) → c ≤ 1 → Within b ((w + c) * b * 2) ((w * b + r) * 2)
    go c h = let k : c * b ≤ 1 * b = mul-le-mul_right b h in omega arith

nearest_off : (w b r : ℕ) (o : Ordering) → Cmp o (r * 2) b → r < b → Within b (nearest w o * b * 2) ((w * b + r) * 2)
nearest_off w b r Ordering.lt c h = omega arith
nearest_off w b r Ordering.eq c h = tie w b r c
nearest_off w b r Ordering.gt c h = omega arith

pub closest_off : (a b : ℕ) → 0 < b → Within b (closest a b * b * 2) (a * 2)
closest_off a b B = subst (λ (z : ℕ). Within b (closest a b * b * 2) (z * 2)) (div-add-mod' a b)
    (nearest_off (a / b) b (a % b) (compare (a % b * 2) b) (cmp (a % b * 2) b) (mod-lt a B))

-- ---- the rounded number of units, kept * 2 ^ drop, against the fraction n / d
scaled-off : (c d t a : ℕ) → Within (d * t) (c * (d * t) * 2) (a * 2) → Within (d * t) (c * t * d * 2) (a * 2)
scaled-off c d t a w = let h = w.above in let k = w.below in record { above = omega arith; below = omega arith }

unit_off : (p n d : ℕ) → 0 < d → Within (d * 2 ^ drop p n d) (kept p n d * 2 ^ drop p n d * d * 2) (n * 2)
unit_off p n d D = scaled-off (kept p n d) d (2 ^ drop p n d) n (closest_off n (d * 2 ^ drop p n d) (mul-pos D (pow_pos (drop p n d))))

in_use : (z p : ℕ) → 0 < p → 0 < z - p → p - 1 + (z - p) < z
in_use z p P h = omega arith

-- the unit in the last place is no more than 2 ^ (1 - p) of the fraction, or it is the format's smallest value
unit_small : (p n d : ℕ) → 0 < p → 0 < d → d * 2 ^ drop p n d * 2 ^ (p - 1) ≤ n + d * 2 ^ (p - 1)
unit_small p n d P D = elim (eq-zero-or-pos (drop p n d)) [
  | inl e ↦ subst (λ (k : ℕ). d * 2 ^ k * 2 ^ (p - 1) ≤ n + d * 2 ^ (p - 1)) (sym e) (omega arith)
  | inr l ↦
      let a : 2 ^ (p - 1) * 2 ^ drop p n d ≤ n / d = le_trans (le_of_eq (sym (pow-add 2 (p - 1) (drop p n d))))
      (size_reaches (n / d) (p - 1 + drop p n d) (in_use (size (n / d)) p P l)) in
      let b : 2 ^ (p - 1) * 2 ^ drop p n d * d ≤ n = (le-div_iff_mul-le D).0 a in
      omega arith
]

combine : (H u g n d : ℕ) → d * u * H ≤ n + d * H → Within (d * u) (g * d * 2) (n * 2) → Within (n + d * H) (g * d * (2 * H)) (n * (2 * H))
combine H u g n d s w =
    let a = mul-le-mul_right H w.above in
    let b = mul-le-mul_right H w.below in
    record { above = omega arith; below = omega arith }

-- |g - n / d| is at most 2 ^ -p of n / d and half a unit
pub units_off : (p n d : ℕ) → 0 < p → 0 < d
    → Within (n + d * 2 ^ (p - 1)) (kept p n d * 2 ^ drop p n d * d * (2 * 2 ^ (p - 1))) (n * (2 * 2 ^ (p - 1)))
units_off p n d P D = combine (2 ^ (p - 1)) (2 ^ drop p n d) (kept p n d * 2 ^ drop p n d) n d (unit_small p n d P D) (unit_off p n d D)

-- a whole number of units, q, is moved by 2 ^ -p of itself at most: below 2 ^ p units it is not moved at all
exact_zero : (q g d : ℕ) → 0 < d → Within (d * 1) (g * d * 2) (q * d * 2) → g ≡ q
exact_zero q g d D w =
    let a = w.above in
    let b = w.below in
    let hi : g * 2 < q * 2 + 2 = lt_of_mul-lt-mul_right d (omega arith) in
    let lo : q * 2 < g * 2 + 2 = lt_of_mul-lt-mul_right d (omega arith) in
    omega arith

whole-small : (p q d : ℕ) → 0 < p → 0 < d → 0 < drop p (q * d) d
    → Within (q * d) (kept p (q * d) d * 2 ^ drop p (q * d) d * d * (2 * 2 ^ (p - 1))) (q * d * (2 * 2 ^ (p - 1)))
whole-small p q d P D l =
    let n = q * d in
    let a : 2 ^ (p - 1) * 2 ^ drop p n d ≤ n / d = le_trans (le_of_eq (sym (pow-add 2 (p - 1) (drop p n d))))
    (size_reaches (n / d) (p - 1 + drop p n d) (in_use (size (n / d)) p P l)) in
    go (2 ^ (p - 1)) (2 ^ drop p n d) (kept p n d * 2 ^ drop p n d) n ((le-div_iff_mul-le D).0 a) (unit_off p n d D)
  where
    go : (H u g n : ℕ) → H * u * d ≤ n → Within (d * u) (g * d * 2) (n * 2) → Within n (g * d * (2 * H)) (n * (2 * H))
    go H u g n s w =
        let x = mul-le-mul_right H w.above in
        let y = mul-le-mul_right H w.below in
        record { above = omega arith; below = omega arith }

cancel : (q g d P : ℕ) → 0 < d → Within (q * d) (g * d * P) (q * d * P) → Within q (g * P) (q * P)
cancel q g d P D w =
    let a = w.above in
    let b = w.below in
    record { above = le_of_mul-le-mul_right {k = d} (omega arith) D; below = le_of_mul-le-mul_right {k = d} (omega arith) D }

pub whole-off : (p q d : ℕ) → 0 < p → 0 < d → Within q (kept p (q * d) d * 2 ^ drop p (q * d) d * (2 * 2 ^ (p - 1))) (q * (2 * 2 ^ (p - 1)))
whole-off p q d P D = elim (eq-zero-or-pos (drop p (q * d) d)) [
  | inl e ↦ same (2 * 2 ^ (p - 1)) (kept p (q * d) d * 2 ^ drop p (q * d) d)
      (exact_zero q (kept p (q * d) d * 2 ^ drop p (q * d) d) d D
      (subst (λ (k : ℕ). Within (d * 2 ^ k) (kept p (q * d) d * 2 ^ drop p (q * d) d * d * 2) (q * d * 2)) e (unit_off p (q * d) d D)))
  | inr l ↦ cancel q (kept p (q * d) d * 2 ^ drop p (q * d) d) d (2 * 2 ^ (p - 1)) D (whole-small p q d P D l)
]
  where
    same : (P g : ℕ) → g ≡ q → Within q (g * P) (q * P)
    same P g e = subst (λ (z : ℕ). Within q (z * P) (q * P)) (sym e) (omega arith)
