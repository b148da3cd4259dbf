-- What comparisons tell of a double: whether it is finite, its size, and the order of two sizes. Assumes nothing.
use mathlib.Core.Path.{◌≡◌, refl, sym, ap, ◌∙◌}
use mathlib.Core.Bool.{Bool, true, false, not, cond}
use Prim.Native.Nat.{ℕ, zero, suc, ◌+◌, ◌*◌}
use native.Mathlib.Nat.{zero-mul, mul-one, zero-add}
use native.Mathlib.Omega.{arith}
use borrow.Author.Tests.{le-ltb, ltb-true, ltb-false, eq-eqb, eqb-true}
use lib.Dec.{T, ltb}
use lib.IntN.{ℤ, pos}
use lib.Ieee.{Float, nan, inf, fin, binary64, neg, lt, eq, ne, below, level, up, down, is_nan, fits, of_bits}
use lib.Ieee.Scale.{finite}
use lib.Ieee.Back.{whole_unique}
use Rattle.meaning.specs.Scalar.{zero64}
use Rattle.meaning.specs.Number.{size_of, smaller}
use Rattle.meaning.proofs.Tests.{and_left}
use Rattle.number.specs.Magnitude.{magnitude_of}

-- ---- finite

abbrev pub infinite : Float
infinite = of_bits binary64 0x7ff0_0000_0000_0000

pub finite_by : (x : Float) → cond (lt x infinite) (lt (neg infinite) x) false ≡ finite x
unfolding lt neg of_bits
finite_by nan = refl
finite_by (inf true) = refl
finite_by (inf false) = refl
finite_by (fin s m e) = refl

-- ---- a finite number beside zero: only m * up e counts, its size times down e

lt_zero : (s : Bool) (m : ℕ) (e : ℤ) → lt (fin s m e) zero64 ≡ below s (m * up e) false 0
unfolding lt of_bits
lt_zero s m e = ap (λ (k : ℕ). below s k false (0 * 1 * down e)) (mul-one (m * up e)) ∙ ap (below s (m * up e) false) (zero-mul (down e))

eq_zero : (s : Bool) (m : ℕ) (e : ℤ) → eq (fin s m e) zero64 ≡ level s (m * up e) false 0
unfolding eq of_bits
eq_zero s m e = ap (λ (k : ℕ). level s k false (0 * 1 * down e)) (mul-one (m * up e)) ∙ ap (level s (m * up e) false) (zero-mul (down e))

-- ---- the size

-- below zero the sign is a minus, which the negation takes off
pub size_turned : (x : Float) → lt x zero64 ≡ true → neg x ≡ size_of x
unfolding lt neg size_of of_bits
size_turned nan h = let z : ◌≡◌ {A = Bool} false true = h in cc
size_turned (inf true) h = refl
size_turned (inf false) h = let z : ◌≡◌ {A = Bool} false true = h in cc
size_turned (fin true m e) h = refl
size_turned (fin false m e) h = absurd (omega (arith, ltb-true (m * up e) 0 (sym (lt_zero false m e) ∙ h)))

unsigned-fits : (s : Bool) (m : ℕ) (e : ℤ) → T (fits binary64 (fin s m e)) → T (fits binary64 (fin false m e))
unfolding fits
unsigned-fits s zero e h = h
unsigned-fits s (suc m) e h = h

-- a double that equals zero is one of the two zeros, which are written in one way
pub size_zero : (x : Float) → T (fits binary64 x) → eq x zero64 ≡ true → zero64 ≡ size_of x
unfolding eq size_of of_bits fits
size_zero nan f h = let z : ◌≡◌ {A = Bool} false true = h in cc
size_zero (inf s) f h = let z : ◌≡◌ {A = Bool} false true = h in cc
size_zero (fin s m e) f h =
    let none : m * up e ≡ 0 = eqb-true (m * up e) 0 (and_left _ _ (sym (eq_zero s m e) ∙ h)) in
    whole_unique binary64 (fin false 0 (pos 0)) (fin false m e) false 0 tt (unsigned-fits s m e f) (refl, refl) (refl, mul-one (m * up e) ∙ none ∙ sym (zero-mul (down e)))

-- neither below zero nor zero: no minus sign
pub size_stays : (x : Float) → lt x zero64 ≡ false → eq x zero64 ≡ false → x ≡ size_of x
unfolding lt eq size_of of_bits
size_stays nan h g = refl
size_stays (inf true) h g = let z : ◌≡◌ {A = Bool} true false = h in cc
size_stays (inf false) h g = refl
size_stays (fin true m e) h g =
    let none : m * up e ≡ 0 = omega (arith, ltb-false 0 (m * up e + 0) (sym (lt_zero true m e) ∙ h)) in
    let z : ◌≡◌ {A = Bool} true false = ap (λ (a : ℕ). level true a false 0) (sym none) ∙ sym (eq_zero true m e) ∙ g in
    cc
size_stays (fin false m e) h g = refl

-- ---- the order of two sizes

-- the sign that the magnitude of ±a keeps: a minus at zero alone
kept : Bool → ℕ → Bool
kept s a = cond (below s a false 0) (not s) s

kept-minus : (s : Bool) (a : ℕ) → kept s a ≡ true → a ≡ 0
unfolding kept
kept-minus s a h = by s (below s a false 0) refl h
  where
    by : (s b : Bool) → below s a false 0 ≡ b → cond b (not s) s ≡ true → a ≡ 0
    by true true p q = let z : ◌≡◌ {A = Bool} false true = q in cc
    by true false p q = omega (arith, ltb-false 0 (a + 0) p)
    by false true p q = omega (arith, ltb-true a 0 p)
    by false false p q = let z : ◌≡◌ {A = Bool} false true = q in cc

chosen : (b s : Bool) (m : ℕ) (e : ℤ) → cond b (fin (not s) m e) (fin s m e) ≡ fin (cond b (not s) s) m e
chosen true s m e = refl
chosen false s m e = refl

magnitude_fin : (s : Bool) (m : ℕ) (e : ℤ) → magnitude_of (fin s m e) ≡ fin (kept s (m * up e)) m e
unfolding kept neg
magnitude_fin s m e = chosen (lt (fin s m e) zero64) s m e ∙ ap (λ (b : Bool). fin (cond b (not s) s) m e) (lt_zero s m e)

magnitude_inf : (s : Bool) → magnitude_of (inf s) ≡ inf false
unfolding lt neg of_bits
magnitude_inf true = refl
magnitude_inf false = refl

-- signs that only zeros have do not change the order
below-sizes : (s t : Bool) (a b : ℕ) → (s ≡ true → a ≡ 0) → (t ≡ true → b ≡ 0) → below s a t b ≡ ltb a b
below-sizes false false a b h g = refl
below-sizes true false a b h g = rw (h refl, zero-add b)
below-sizes false true a b h g = sym (le-ltb a b (omega (arith, g refl)))
below-sizes true true a b h g = rw (h refl, g refl)

times_zero : (x k : ℕ) → x ≡ 0 → x * k ≡ 0
times_zero x k e = rw (e, zero-mul k)

pub same_order : (x y : Float) → is_nan x ≡ false → is_nan y ≡ false → lt (magnitude_of x) (magnitude_of y) ≡ lt (size_of x) (size_of y)
unfolding is_nan lt size_of
same_order nan y h g = let z : ◌≡◌ {A = Bool} true false = h in cc
same_order (inf s) nan h g = let z : ◌≡◌ {A = Bool} true false = g in cc
same_order (inf s) (inf t) h g = rw (magnitude_inf s, magnitude_inf t)
same_order (inf s) (fin t n d) h g = rw (magnitude_inf s, magnitude_fin t n d)
same_order (fin s m e) nan h g = let z : ◌≡◌ {A = Bool} true false = g in cc
same_order (fin s m e) (inf t) h g = rw (magnitude_fin s m e, magnitude_inf t)
same_order (fin s m e) (fin t n d) h g =
    rw (magnitude_fin s m e, magnitude_fin t n d)
    (below-sizes (kept s (m * up e)) (kept t (n * up d)) (m * up e * down d) (n * up d * down e)
    (λ z. times_zero (m * up e) (down d) (kept-minus s (m * up e) z)) (λ z. times_zero (n * up d) (down e) (kept-minus t (n * up d) z)))

-- a double differs from itself where it is a NaN
pub nan_is : (x : Float) → ne x x ≡ is_nan x
unfolding ne eq is_nan
nan_is nan = refl
nan_is (inf true) = refl
nan_is (inf false) = refl
nan_is (fin true m e) = rw (eq-eqb (m * up e * down e) (m * up e * down e) refl)
nan_is (fin false m e) = rw (eq-eqb (m * up e * down e) (m * up e * down e) refl)

-- ---- `smaller`, by the three tests

module _ (x y : Float) where
  pub never-smaller : ne x x ≡ true → false ≡ smaller x y
  unfolding smaller
  never-smaller h = rw (sym (nan_is x) ∙ h)

  pub before_nan : ne x x ≡ false → ne y y ≡ true → true ≡ smaller x y
  unfolding smaller
  before_nan h g = rw (sym (nan_is x) ∙ h, sym (nan_is y) ∙ g)

  pub by_size : ne x x ≡ false → ne y y ≡ false → lt (magnitude_of x) (magnitude_of y) ≡ smaller x y
  unfolding smaller
  by_size h g =
      let p : is_nan x ≡ false = sym (nan_is x) ∙ h in
      let q : is_nan y ≡ false = sym (nan_is y) ∙ g in
      rw (p, q) (same_order x y p q)
