-- Fractions rounded to doubles, in units (`grid`): between which powers of two they lie, what a power of two does to them where all digits are kept, and
-- what a sum loses of its smaller part. Assumes nothing.
use mathlib.Core.Path.{◌≡◌, sym, ap, ◌∙◌, subst}
use mathlib.Core.Logic.{inl, inr}
use Prim.Native.Nat.{ℕ, suc, ◌+◌, ◌-◌, ◌*◌, ◌/◌, ◌^◌, ◌≤◌, ◌<◌}
use native.Mathlib.Nat.{le_trans, le_antisymm, le_of_eq, le_of_lt, eq-or-lt_of_le, eq-zero-or-pos, not-le_of_lt, zero-mul, lt_of_le_of_lt, lt_of_lt_of_le, zero-lt-suc, add-mul, mul-one, mul_assoc, mul_comm, mul_left_comm, mul_right_comm, mul-le-mul, mul-le-mul_right, mul-lt-mul_of_pos_right, mul-pos, mul-div_cancel, le-div_iff_mul-le, div-lt_iff_lt-mul}
use native.Mathlib.Omega.{arith}
use lib.Pow.{pow-add, pow_pos, pow_mono, pow-lt, shl_lt}
use lib.Ieee.{binary64, size}
use lib.Ieee.Digits.{size-lt, size-le, size_reaches, back}
use lib.Ieee.Nearest.{closest, closest_mono, div_mono}
use lib.Ieee.Order.{drop}
use lib.Ieee.Scale.{grid, grid_scale, normal_of_fraction}
use Rattle.root.proofs.Scaling.{pow_below}
use Rattle.root.proofs.Closest.{closest_is, size_is}

-- ---- to the nearest whole number

pub closest_exact : (q b : ℕ) → 0 < b → closest (q * b) b ≡ q
closest_exact q b p = closest_is (q * b) b q p (omega arith) (omega arith)

pub closest_most : (n u q : ℕ) → 0 < u → n ≤ q * u → closest n u ≤ q
closest_most n u q p h = subst (λ (z : ℕ). closest n u ≤ z) (closest_exact q u p) (closest_mono n u (q * u) u p p (mul-le-mul_right u h))

closest_least : (n u q : ℕ) → 0 < u → q * u ≤ n → q ≤ closest n u
closest_least n u q p h = subst (λ (z : ℕ). z ≤ closest n u) (closest_exact q u p) (closest_mono (q * u) u n u p p (mul-le-mul_right u h))

-- ---- between powers of two

pub join : (i d : ℕ) → d ≤ i → 2 ^ (i - d) * 2 ^ d ≡ 2 ^ i
join i d h = sym (pow-add 2 (i - d) d) ∙ ap (λ (x : ℕ). 2 ^ x) (back i d h)

join_by : (c i d : ℕ) → d ≤ i → 2 ^ (i - d) * (c * 2 ^ d) ≡ 2 ^ i * c
join_by c i d h = mul_left_comm (2 ^ (i - d)) c (2 ^ d) ∙ ap (λ (x : ℕ). c * x) (join i d h) ∙ mul_comm c (2 ^ i)

fewer : (z i : ℕ) → z ≤ suc i → z - 53 ≤ i
fewer z i h = omega arith

pub grid_most : (a c i : ℕ) → 0 < c → a * 2 ^ 1074 ≤ 2 ^ i * c → grid binary64 a c ≤ 2 ^ i
grid_most a c i p h =
    let n = a * 2 ^ 1074 in
    let d = drop 53 n c in
    let more : n / c < 2 ^ suc i = (div-lt_iff_lt-mul p).1 (lt_of_le_of_lt h (wider c i p)) in
    let few : d ≤ i = fewer (size (n / c)) i (size-le (n / c) (suc i) more) in
    le_trans (mul-le-mul_right (2 ^ d) (closest_most n (c * 2 ^ d) (2 ^ (i - d)) (mul-pos p (pow_pos d)) (le_trans h (le_of_eq (sym (join_by c i d few))))))
    (le_of_eq (join i d few))
  where
    wider : (c i : ℕ) → 0 < c → 2 ^ i * c < 2 ^ suc i * c
    wider c i p = mul-lt-mul_of_pos_right (pow-lt {i = i} {j = suc i} (omega arith)) p

at_most : (z i : ℕ) → i < z → z - 53 ≤ z - 1
at_most z i h = omega arith

before : (z i : ℕ) → i < z → i ≤ z - 1
before z i h = omega arith

last : (z i : ℕ) → i < z → z - 1 < z
last z i h = omega arith

pub grid_least : (a c i : ℕ) → 0 < c → 2 ^ i * c ≤ a * 2 ^ 1074 → 2 ^ i ≤ grid binary64 a c
grid_least a c i p h =
    let n = a * 2 ^ 1074 in
    let z = size (n / c) in
    let d = drop 53 n c in
    let up : i < z = pow_below i z (n / c) ((le-div_iff_mul-le p).1 h) (size-lt (n / c)) in
    let low : 2 ^ (z - 1) * c ≤ n = (le-div_iff_mul-le p).0 (size_reaches (n / c) (z - 1) (last z i up)) in
    let few : d ≤ z - 1 = at_most z i up in
    le_trans (pow_mono (before z i up))
    (le_trans (le_of_eq (sym (join (z - 1) d few)))
    (mul-le-mul_right (2 ^ d) (closest_least n (c * 2 ^ d) (2 ^ (z - 1 - d)) (mul-pos p (pow_pos d)) (le_trans (le_of_eq (join_by c (z - 1) d few)) low))))

-- ---- in order

same_drop : (k a b c d : ℕ) → 0 < b → 0 < d → a * d ≤ c * b → closest a (b * 2 ^ k) * 2 ^ k ≤ closest c (d * 2 ^ k) * 2 ^ k
same_drop k a b c d p q h =
    mul-le-mul_right (2 ^ k)
    (closest_mono a (b * 2 ^ k) c (d * 2 ^ k) (mul-pos p (pow_pos k)) (mul-pos q (pow_pos k))
    (le_trans (le_of_eq (sym (mul_assoc a d (2 ^ k)))) (le_trans (mul-le-mul_right (2 ^ k) h) (le_of_eq (mul_assoc c b (2 ^ k))))))

size_mono : (a b : ℕ) → a ≤ b → size a ≤ size b
size_mono a b h = size-le a (size b) (lt_of_le_of_lt h (size-lt b))

-- with as many digits dropped the kept ones are in order; otherwise a power of two lies between the two
pub grid_mono : (a b c d : ℕ) → 0 < b → 0 < d → a * d ≤ c * b → grid binary64 a b ≤ grid binary64 c d
grid_mono a b c d p q h =
    let n = a * 2 ^ 1074 in
    let m = c * 2 ^ 1074 in
    let l : n * d ≤ m * b = le_trans (le_of_eq (mul_right_comm a (2 ^ 1074) d)) (le_trans (mul-le-mul_right (2 ^ 1074) h) (le_of_eq (mul_right_comm c b (2 ^ 1074)))) in
    let z = size (n / b) in
    elim (eq-or-lt_of_le (size_mono (n / b) (m / d) (div_mono n b m d p q l))) [
      | inl e ↦ subst (λ (x : ℕ). closest n (b * 2 ^ (x - 53)) * 2 ^ (x - 53) ≤ grid binary64 c d) (sym e) (same_drop (size (m / d) - 53) n b m d p q l)
      | inr g ↦
          le_trans (grid_most a b z p (le_of_lt ((div-lt_iff_lt-mul p).0 (size-lt (n / b)))))
          (grid_least c d z q ((le-div_iff_mul-le q).0 (size_reaches (m / d) z g)))
    ]

-- ---- equal fractions

pub grid_same : (a b c d : ℕ) → 0 < b → 0 < d → a * d ≡ c * b → grid binary64 a b ≡ grid binary64 c d
grid_same a b c d p q e = le_antisymm (grid_mono a b c d p q (le_of_eq e)) (grid_mono c d a b q p (le_of_eq (sym e)))

-- ---- numbers of units that a double holds

-- 53 digits at most, and a power of two
pub record Held (u : ℕ) : Type 0 where
  pub digits : ℕ
  pub places : ℕ
  pub is : u ≡ digits * 2 ^ places
  pub few : digits < 2 ^ 53

-- 53 digits
pub record Full (u : ℕ) : Type 0 where
  pub digits : ℕ
  pub places : ℕ
  pub is : u ≡ digits * 2 ^ places
  pub least : 2 ^ 52 ≤ digits
  pub most : digits < 2 ^ 53

-- a fraction is rounded to one, and from 2 ^ 53 on it has them all
pub full : (u : ℕ) → Held u → 2 ^ 53 ≤ u → Full u
full u h l =
    let o = h.digits in
    let s = size o in
    let z = 53 - s in
    let short : s ≤ 53 = size-le o 53 h.few in
    let past : 53 < s + h.places = pow_below 53 (s + h.places) u l (subst (λ (x : ℕ). x < 2 ^ (s + h.places)) (sym h.is) (shl_lt s h.places (size-lt o))) in
    let all : z ≤ h.places = omega arith in
    let one : 0 < s = positive o h.places u h.is l in
    record {
      digits = o * 2 ^ z;
      places = h.places - z;
      is =
          h.is ∙ ap (λ (x : ℕ). o * 2 ^ x) (sym (forth h.places z all)) ∙ ap (λ (x : ℕ). o * x) (pow-add 2 z (h.places - z)) ∙ sym (mul_assoc o (2 ^ z) (2 ^ (h.places - z)));
      least = le_trans (pow_mono {i = 52} {j = s - 1 + z} (omega arith)) (le_trans (le_of_eq (pow-add 2 (s - 1) z)) (mul-le-mul_right (2 ^ z) (size_reaches o (s - 1) (last s 0 one))));
      most = lt_of_lt_of_le (shl_lt s z (size-lt o)) (pow_mono {i = s + z} {j = 53} (omega arith));
    }
  where
    forth : (i z : ℕ) → z ≤ i → z + (i - z) ≡ i
    forth i z h = omega arith

    positive : (o i u : ℕ) → u ≡ o * 2 ^ i → 2 ^ 53 ≤ u → 0 < size o
    positive o i u e l = elim (eq-zero-or-pos o) [
      | inl z ↦ absurd (not-le_of_lt (pow_pos 53) (le_trans l (le_of_eq (e ∙ ap (λ (x : ℕ). x * 2 ^ i) z ∙ zero-mul (2 ^ i)))))
      | inr p ↦ pow_below 0 (size o) o p (size-lt o)
    ]

-- ---- where all digits are kept: the whole number a to 53 digits, in units

abbrev pub digits : ℕ → ℕ
digits a = grid binary64 a 1

-- a over 2 ^ t is in the normal range
pub grid_digits : (a t : ℕ) → 2 ^ 52 * 2 ^ t ≤ a * 2 ^ 1074 → grid binary64 a (2 ^ t) * 2 ^ t ≡ digits a
grid_digits a t h =
    sym (grid_scale binary64 a (2 ^ t) t (pow_pos t) (normal_of_fraction binary64 a (2 ^ t) (pow_pos t) h))
    ∙ grid_same (a * 2 ^ t) (2 ^ t) a 1 (pow_pos t) (zero-lt-suc 0) (mul-one (a * 2 ^ t))

positive_wide : (a : ℕ) → 1 ≤ a → 2 ^ 52 * 1 ≤ a * 2 ^ 1074
positive_wide a h = le_trans (le_of_eq (mul_comm (2 ^ 52) 1)) (mul-le-mul h (pow_mono {i = 52} {j = 1074} (omega arith)))

pub digits_scale : (a t : ℕ) → 1 ≤ a → digits (a * 2 ^ t) ≡ digits a * 2 ^ t
digits_scale a t h = grid_scale binary64 a 1 t (zero-lt-suc 0) (normal_of_fraction binary64 a 1 (zero-lt-suc 0) (positive_wide a h))

-- ---- sums

-- two numbers of units, added
abbrev pub added : ℕ → ℕ → ℕ
added a b = grid binary64 (a + b) (2 ^ 1074)

pub added_digits : (a b t A B : ℕ) → 2 ^ 52 ≤ a → a * 2 ^ t ≡ A → b * 2 ^ t ≡ B → added a b * 2 ^ 1074 * 2 ^ t ≡ digits (A + B)
added_digits a b t A B h p q =
    ap (λ (z : ℕ). z * 2 ^ t) (grid_digits (a + b) 1074 (mul-le-mul_right (2 ^ 1074) (le_trans h (omega arith))))
    ∙ sym (digits_scale (a + b) t (le_trans (omega arith) (le_trans h (omega arith))))
    ∙ ap digits (add-mul a b (2 ^ t) ∙ ap (λ (z : ℕ). z + b * 2 ^ t) p ∙ ap (λ (z : ℕ). A + z) q)

-- what is below half of the last digit's weight is lost
pub added_small : (q k b : ℕ) → 2 ^ 52 ≤ q → q < 2 ^ 53 → 2 * b < 2 ^ k → added (q * 2 ^ k) b ≡ q * 2 ^ k
added_small q k b lo hi h =
    let L = 2 ^ 1074 in
    let a = q * 2 ^ k + b in
    let whole : a * L / L ≡ a = mul-div_cancel a (pow_pos 1074) in
    let least : 2 ^ (52 + k) ≤ a = le_trans (le_of_eq (pow-add 2 52 k)) (le_trans (mul-le-mul_right (2 ^ k) lo) (omega arith)) in
    let most : a < 2 ^ suc (52 + k) = lt_of_lt_of_le (over q k b hi h) (le_of_eq (sym (ap (λ (z : ℕ). 2 ^ z) (one_more k) ∙ pow-add 2 53 k))) in
    let d : size (a * L / L) - 53 ≡ k = ap (λ (z : ℕ). size z - 53) whole ∙ ap (λ (z : ℕ). z - 53) (size_is a (52 + k) least most) ∙ left k in
    ap (λ (z : ℕ). closest (a * L) (L * 2 ^ z) * 2 ^ z) d
    ∙ ap (λ (z : ℕ). z * 2 ^ k) (closest_is (a * L) (L * 2 ^ k) q (mul-pos (pow_pos 1074) (pow_pos k)) (below q (2 ^ k) b L (pow_pos 1074) (pow_pos k)) (above q (2 ^ k) b L (pow_pos 1074) h))
  where
    over : (q k b : ℕ) → q < 2 ^ 53 → 2 * b < 2 ^ k → q * 2 ^ k + b < 2 ^ 53 * 2 ^ k
    over q k b hi h = omega (arith, mul-le-mul_right (2 ^ k) hi)

    one_more : (k : ℕ) → suc (52 + k) ≡ 53 + k
    one_more k = omega arith

    left : (k : ℕ) → suc (52 + k) - 53 ≡ k
    left k = omega arith

    below : (q K b L : ℕ) → 0 < L → 0 < K → 2 * (q * (L * K)) < 2 * ((q * K + b) * L) + L * K
    below q K b L l p = omega (arith, mul-pos l p)

    above : (q K b L : ℕ) → 0 < L → 2 * b < K → 2 * ((q * K + b) * L) < 2 * (q * (L * K)) + L * K
    above q K b L l h = omega (arith, mul-lt-mul_of_pos_right h l)
