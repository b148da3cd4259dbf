-- From what a program tests to whole numbers: a finite double is a whole number of units, and `lt` and `le` compare these. Assumes nothing.
use mathlib.Core.Path.{◌≡◌, refl, sym, ap, ◌∙◌}
use Prim.Native.Nat.{ℕ, zero, suc, ◌+◌, ◌-◌, ◌*◌, ◌/◌, ◌%◌, ◌^◌, ◌≤◌, ◌<◌}
use native.Mathlib.Nat.{mul-pos, mul-div_cancel, mul_assoc, zero-mul, zero-div}
use native.Mathlib.Omega.{arith}
use mathlib.Core.Bool.{Bool, true, false, ◌&&◌, true≢false}
use borrow.Author.Tests.{ltb-true, ltb-false}
use lib.IntN.{ℤ, pos, negsuc}
use lib.Dec.{T, leb, ltb, eqb, leb→le}
use lib.Pow.{pow_pos, pow-add}
use lib.Ieee.{Float, nan, inf, fin, binary64, up, down, below, lt, le, fits}
use lib.Ieee.Digits.{back}
use lib.Ieee.Fits.{down_pos, and_l, and_r}
use lib.Ieee.Exact.{HasValue}
use lib.Ieee.Scale.{finite}
use Rattle.meaning.specs.Root.{in_units}
use Rattle.meaning.proofs.Order.{below_is, below_ratio, le_not_lt}
use Rattle.meaning.proofs.Whole.{exponent}
use Rattle.hull.specs.Units.{U, negative, plus, minus}
use Rattle.meaning.proofs.Values.{U_pos, left_part, right_part}
use Rattle.hull.proofs.Operations.{Whole}

-- ---- a double that is finite is a whole number of units: its power of two is 2 ^ -1074 or above

even_out : (v k l : ℕ) → k ≤ l → v * 2 ^ l / 2 ^ k * 2 ^ k ≡ v * 2 ^ l
even_out v k l h =
    let e : v * 2 ^ l ≡ v * 2 ^ (l - k) * 2 ^ k = ap (λ (j : ℕ). v * 2 ^ j) (sym (back l k h)) ∙ ap (λ (z : ℕ). v * z) (pow-add 2 (l - k) k) ∙ sym
    (mul_assoc v (2 ^ (l - k)) (2 ^ k)) in
    ap (λ (z : ℕ). z / 2 ^ k * 2 ^ k) e ∙ ap (λ (z : ℕ). z * 2 ^ k) (mul-div_cancel (v * 2 ^ (l - k)) (pow_pos k)) ∙ sym e

whole-down : (v : ℕ) (e : ℤ) → down e ≤ U → v * U / down e * down e ≡ v * U
whole-down v (pos k) h = even_out v 0 1074 (omega arith)
whole-down v (negsuc k) h = even_out v (suc k) 1074 (exponent (suc k) 1074 h)

pub whole : (x : Float) → finite x ≡ true → T (fits binary64 x) → Whole x
unfolding fits in_units
whole nan f h = absurd (true≢false (sym f))
whole (inf s) f h = absurd (true≢false (sym f))
whole (fin s zero e) f h = (
  refl,
  ap (λ (z : ℕ). z * U) (zero-mul (up e)) ∙ sym
      (ap (λ (z : ℕ). z * U / down e * down e) (zero-mul (up e)) ∙ ap (λ (z : ℕ). z * down e) (zero-div (down e)) ∙ zero-mul (down e)),
)
whole (fin s (suc m) e) f h = (
  refl,
  sym (whole-down (suc m * up e) e
      (leb→le (down e) U (and_r (eqb (suc m % 2) 1 && ltb (suc m) (2 ^ 53)) (leb (down e) U)
      (and_l (eqb (suc m % 2) 1 && ltb (suc m) (2 ^ 53) && leb (down e) U) (ltb (suc m * up e) (2 ^ 1024 * down e)) h)))),
)

-- ---- `lt` on values that are given over one denominator

lt_is : (x y : Float) (s t : Bool) (a b c : ℕ) → 0 < c → HasValue x s a c → HasValue y t b c → lt x y ≡ below s a t b
unfolding lt
lt_is nan y s t a b c C p q = absurd p
lt_is (inf s') y s t a b c C p q = absurd p
lt_is (fin s' m e) nan s t a b c C p q = absurd q
lt_is (fin s' m e) (inf t') s t a b c C p q = absurd q
lt_is (fin s' m e) (fin t' n d) s t a b c C p q =
    ap (λ (z : Bool). below z (m * up e * down d) t' (n * up d * down e)) p.0
    ∙ ap (λ (z : Bool). below s (m * up e * down d) z (n * up d * down e)) q.0
    ∙ below_ratio (m * up e * down d) (n * up d * down e) a b c (down e * down d) (left_part (m * up e) a c (down e) (down d) p.1)
    (right_part (n * up d) b c (down e) (down d) q.1) C (mul-pos (down_pos e) (down_pos d)) s t

-- ---- the order of two finite doubles, by their units

-- x ≤ y and x < y
abbrev pub AtMost : Float → Float → Type 0
AtMost x y = plus x + minus y ≤ plus y + minus x

abbrev pub Under : Float → Float → Type 0
Under x y = plus x + minus y < plus y + minus x

module _ (x y : Float) (p : Whole x) (q : Whole y) where
  in_units_lem : lt x y ≡ ltb (plus x + minus y) (plus y + minus x)
  in_units_lem =
      lt_is x y (negative x) (negative y) (in_units x) (in_units y) U U_pos p q ∙ below_is (negative x) (negative y) (in_units x) (in_units y)

  pub lt_under : lt x y ≡ true → Under x y
  lt_under h = ltb-true _ _ (sym in_units_lem ∙ h)

  pub not_lt_at_most : lt x y ≡ false → AtMost y x
  not_lt_at_most h = ltb-false _ _ (sym in_units_lem ∙ h)

pub le_at_most : (x y : Float) → Whole x → Whole y → le x y ≡ true → AtMost x y
le_at_most x y p q h = not_lt_at_most y x q p (le_not_lt x y h)

-- ---- and its laws

pub trans : (x y z : Float) → AtMost x y → AtMost y z → AtMost x z
trans x y z h k = by (plus x) (minus x) (plus y) (minus y) (plus z) (minus z) h k
  where
    by : (a b c d e f : ℕ) → a + d ≤ c + b → c + f ≤ e + d → a + f ≤ e + b
    by a b c d e f h k = omega arith

pub le_under : (x y z : Float) → AtMost x y → Under y z → Under x z
le_under x y z h k = by (plus x) (minus x) (plus y) (minus y) (plus z) (minus z) h k
  where
    by : (a b c d e f : ℕ) → a + d ≤ c + b → c + f < e + d → a + f < e + b
    by a b c d e f h k = omega arith

pub under_le : (x y z : Float) → Under x y → AtMost y z → Under x z
under_le x y z h k = by (plus x) (minus x) (plus y) (minus y) (plus z) (minus z) h k
  where
    by : (a b c d e f : ℕ) → a + d < c + b → c + f ≤ e + d → a + f < e + b
    by a b c d e f h k = omega arith
