-- The order of sizes, `at_least`: each size is at least itself, of two one is at least the other, and it passes on; a NaN's is at least every other.
-- Assumes nothing.
use mathlib.Core.Path.{◌≡◌, refl, sym, ap, ◌∙◌}
use mathlib.Core.Bool.{true, false, not}
use lib.Ieee.{Float, nan, inf, fin, lt, le, is_nan}
use borrow.Author.Tests.{not-true, not-false}
use Rattle.meaning.specs.Number.{size_of, smaller, at_least}
use Rattle.meaning.proofs.Tests.{no, by_two}
use Rattle.meaning.proofs.Order.{lt_le, le_refl, le_trans, le_not_lt, not_lt_le}

size_told : (x : Float) → is_nan x ≡ false → is_nan (size_of x) ≡ false
unfolding is_nan size_of
size_told nan h = h
size_told (inf s) h = refl
size_told (fin s m e) h = refl

nan_at_least : (x y : Float) → is_nan x ≡ true → at_least x y ≡ true
unfolding smaller
nan_at_least x y h = rw h

-- so where x is at least y and is no NaN, neither is y
told : (x y : Float) → is_nan x ≡ false → at_least x y ≡ true → is_nan y ≡ false
unfolding smaller
told x y p h = by_two (is_nan y) (λ q. no (sym (rw (p, q)) ∙ h)) (λ q. q)

-- ---- two that are no NaN
module _ (x y : Float) (p : is_nan x ≡ false) (q : is_nan y ≡ false) where
  by_sizes : at_least x y ≡ not (lt (size_of x) (size_of y))
  unfolding smaller
  by_sizes = rw (p, q)

  to_le : at_least x y ≡ true → le (size_of y) (size_of x) ≡ true
  to_le h = not_lt_le (size_of x) (size_of y) (size_told x p) (size_told y q) (not-true _ (sym by_sizes ∙ h))

  of_le : le (size_of y) (size_of x) ≡ true → at_least x y ≡ true
  of_le h = by_sizes ∙ ap not (le_not_lt (size_of y) (size_of x) h)

-- ---- the laws
pub at_least_refl : (x : Float) → at_least x x ≡ true
at_least_refl x = by_two (is_nan x) (nan_at_least x x) (λ p. of_le x x p p (le_refl (size_of x) (size_told x p)))

pub at_least_total : (x y : Float) → at_least x y ≡ false → at_least y x ≡ true
at_least_total x y h =
    by_two (is_nan y) (nan_at_least y x)
    (λ q. by_two (is_nan x) (λ p. no (sym h ∙ nan_at_least x y p))
    (λ p. of_le y x q p (lt_le (size_of x) (size_of y) (not-false _ (sym (by_sizes x y p q) ∙ h)))))

pub at_least_trans : (x y z : Float) → at_least x y ≡ true → at_least y z ≡ true → at_least x z ≡ true
at_least_trans x y z h g =
    by_two (is_nan x) (nan_at_least x z)
    (λ p.
    let q = told x y p h in
    let r = told y z q g in
    of_le x z p r (le_trans (size_of z) (size_of y) (size_of x) (to_le y z q r g) (to_le x y p q h)))
