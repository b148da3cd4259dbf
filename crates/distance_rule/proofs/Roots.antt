-- Doubles that are a power of four apart have roots that are a power of two apart: the digits are the same. Assumes nothing.
use mathlib.Core.Path.{◌≡◌, sym, ap, ◌∙◌, subst}
use mathlib.Core.Logic.{inl, inr}
use mathlib.Core.Bool.{false}
use Prim.Native.Nat.{ℕ, suc, ◌+◌, ◌*◌, ◌/◌, ◌%◌, ◌^◌, ◌≤◌, ◌<◌}
use native.Mathlib.Nat.{le_trans, le_of_eq, lt_of_lt_of_le, lt_irrefl, eq-zero-or-pos, mul_right_comm, mul-le-mul_right, eq_of_mul-eq-mul_right}
use native.Mathlib.Omega.{arith}
use lib.Dec.{T}
use lib.Pow.{pow-add, pow_pos, shl_lt}
use lib.Ieee.{Float, binary64, size, to_bits, fits}
use lib.Ieee.Bits.{of_bits-to_bits}
use lib.Ieee.Exact.{HasValue}
use Rattle.meaning.specs.Root.{in_units, unsigned, root_of}
use Rattle.root.specs.Pattern.{pattern_units}
use Rattle.root.proofs.Squares.{NearestWhole}
use Rattle.root.proofs.FourRoots.{nearest_whole}
use Rattle.root.proofs.Closest.{size_is}
use Rattle.root.proofs.Scaling.{Scales, scaled_of, shift_add}
use Rattle.root.proofs.Doubles.{units_of, finite_below, of_pattern}
use Rattle.root.proofs.RootPattern.{radicand, radicand_range, root-value}

-- 53 digits and a power of two say which they are
record Alike (m n x y : ℕ) : Type 0 where
  digits : m ≡ n
  places : x ≡ y

pub sized : (m x : ℕ) → 2 ^ 52 ≤ m → m < 2 ^ 53 → size (m * 2 ^ x) ≡ suc (52 + x)
sized m x lo hi =
    size_is (m * 2 ^ x) (52 + x) (le_trans (le_of_eq (pow-add 2 52 x)) (mul-le-mul_right (2 ^ x) lo))
    (lt_of_lt_of_le (shl_lt 53 x hi) (le_of_eq (ap (λ (z : ℕ). 2 ^ z) (one_more x))))
  where
    one_more : (x : ℕ) → 53 + x ≡ suc (52 + x)
    one_more x = omega arith

alike : (m n x y : ℕ) → 2 ^ 52 ≤ m → m < 2 ^ 53 → 2 ^ 52 ≤ n → n < 2 ^ 53 → m * 2 ^ x ≡ n * 2 ^ y → Alike m n x y
alike m n x y lo hi lo' hi' e =
    let same : x ≡ y = less x y (sym (sized m x lo hi) ∙ ap size e ∙ sized n y lo' hi') in
    record {
      digits = eq_of_mul-eq-mul_right (2 ^ x) (pow_pos x) m n (e ∙ ap (λ (z : ℕ). n * 2 ^ z) (sym same));
      places = same;
    }
  where
    less : (x y : ℕ) → suc (52 + x) ≡ suc (52 + y) → x ≡ y
    less x y e = omega arith

module _ (s : Float) (f : T (fits binary64 s)) (c : T (unsigned s)) (p : 0 < in_units s) where
  abbrev b : ℕ
  b = to_bits binary64 s

  pub units : pattern_units (to_bits binary64 s) ≡ in_units s
  units = sym (units_of s (pattern_units (to_bits binary64 s)) (of_pattern s f c))

  pub positive : 0 < to_bits binary64 s
  positive = elim (eq-zero-or-pos b) [ inl z ↦ absurd (lt_irrefl 0 (subst (λ (n : ℕ). 0 < n) (sym units ∙ ap pattern_units z) p)) | inr h ↦ h ]

  scales : (m : ℕ) × (a : ℕ) × Scales (to_bits binary64 s) m a
  scales = scaled_of b positive (finite_below s f c)

  root_units : (q : ℕ) → NearestWhole (radicand scales.0 scales.1) q → in_units (root_of s) ≡ q * 2 ^ (scales.1 / 2)
  root_units q near =
      units_of (root_of s) (q * 2 ^ (scales.1 / 2))
      (subst (λ (z : Float). HasValue (root_of z) false (q * 2 ^ (scales.1 / 2)) (2 ^ 1074)) (of_bits-to_bits binary64 s f)
      (root-value b scales.0 scales.1 q (finite_below s f c) scales.2 near))

  moved : (x : ℕ) → scales.0 * 2 ^ (scales.1 + (x + x)) ≡ in_units s * 2 ^ (x + x) * 2 ^ 1022
  moved x =
      sym (shift_add scales.0 scales.1 (x + x) (scales.1 + (x + x)) (omega arith))
      ∙ ap (λ (z : ℕ). z * 2 ^ (x + x)) (scales.2.3 ∙ ap (λ (z : ℕ). z * 2 ^ 1022) units)
      ∙ mul_right_comm (in_units s) (2 ^ 1022) (2 ^ (x + x))

halves : (a b x y : ℕ) → a + (x + x) ≡ b + (y + y) → (a % 2 ≡ b % 2) × (a / 2 + x ≡ b / 2 + y)
halves a b x y e = (omega arith, omega arith)

module _ (s t : Float) (f : T (fits binary64 s)) (g : T (fits binary64 t)) (c : T (unsigned s)) (d : T (unsigned t)) (p : 0 < in_units s) (q : 0 < in_units t) where
  pub root-apart : (x y : ℕ) → in_units s * 2 ^ (x + x) ≡ in_units t * 2 ^ (y + y) → in_units (root_of s) * 2 ^ x ≡ in_units (root_of t) * 2 ^ y
  root-apart x y e =
      let S = scales s f c p in
      let R = scales t g d q in
      let m = S.0 in
      let a = S.1 in
      let n = R.0 in
      let b = R.1 in
      let l : Alike m n (a + (x + x)) (b + (y + y)) =
      alike m n (a + (x + x)) (b + (y + y)) S.2.0 S.2.1 R.2.0 R.2.1 (moved s f c p x ∙ ap (λ (z : ℕ). z * 2 ^ 1022) e ∙ sym (moved t g d q y))
      in
      let h = halves a b x y l.places in
      let same : radicand m a ≡ radicand n b = ap (λ (z : ℕ). z * 2 ^ (a % 2) * 2 ^ 52) l.digits ∙ ap (λ (z : ℕ). n * 2 ^ z * 2 ^ 52) h.0 in
      let w = nearest_whole (radicand m a) (lt_of_lt_of_le (pow_pos 104) (radicand_range (to_bits binary64 s) m a S.2).0) in
      let r = w.0 in
      ap (λ (z : ℕ). z * 2 ^ x) (root_units s f c p r w.1)
      ∙ shift_add r (a / 2) x (a / 2 + x) (omega arith)
      ∙ ap (λ (z : ℕ). r * 2 ^ z) h.1
      ∙ sym (shift_add r (b / 2) y (b / 2 + y) (omega arith))
      ∙ sym (ap (λ (z : ℕ). z * 2 ^ y) (root_units t g d q r (subst (λ (z : ℕ). NearestWhole z r) same w.1)))
