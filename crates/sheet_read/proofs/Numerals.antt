-- Digits: what a test of a byte tells, and that the numbers they write fit. Assumes nothing.
use mathlib.Core.Path.{◌≡◌, refl, sym, ap, ◌∙◌}
use mathlib.Core.Bool.{Bool, true, false, not, ◌||◌}
use mathlib.Core.List.{List}
use Prim.Native.Nat.{ℕ, zero, suc, ◌+◌, ◌-◌, ◌*◌, ◌^◌, ◌≤◌, ◌<◌}
use native.Mathlib.Nat.{pow-suc, pow-le-pow_right, mul-le-mul_left, lt_of_lt_of_le, lt_of_le_of_lt, zero-mul, add-zero}
use native.Mathlib.Numerals.{add-one}
use native.Mathlib.Omega.{arith}
use lib.Arith.{digits_lt}
use lib.Dec.{leb, eqb}
use lib.ListN.{length, get_or-eq_default}
use Rattle.meaning.specs.Loops.{turns}
use borrow.Author.Tests.{leb-true, le-leb, lt-leb, eqb-false, not-true, not-false}
use Rattle.meaning.proofs.Tests.{no, by_two, and_left, and_right}
use Rattle.meaning.proofs.Searching.{seek-first}
use Rattle.sheet_read.specs.Number.{within, is_decimal, is_letter, digit_of, number_at, digits_at, count_at, count_stands}
use Rattle.sheet_read.specs.Text.{byte_at}

-- the test of a range tells both ends
pub not_below : (lo hi b : ℕ) → within lo hi b ≡ true → lo ≤ b
not_below lo hi b h = leb-true lo b (and_left (leb lo b) (leb b hi) h)

pub not_above_lem : (lo hi b : ℕ) → within lo hi b ≡ true → b ≤ hi
not_above_lem lo hi b h = leb-true b hi (and_right (leb lo b) (leb b hi) h)

-- ---- which digit a byte is

module _ (b : ℕ) where
  pub decimal_is : is_decimal b ≡ true → digit_of b ≡ b - 48
  unfolding digit_of
  decimal_is h = rw h

  pub letter_is : is_decimal b ≡ false → is_letter b ≡ true → digit_of b ≡ b - 55
  unfolding digit_of
  letter_is h g = rw (h, g)

  pub no_digit : is_decimal b ≡ false → is_letter b ≡ false → digit_of b ≡ 0
  unfolding digit_of
  no_digit h g = rw (h, g)

  pub digit_small : digit_of b < 16
  digit_small =
      by_two (is_decimal b) (λ h. rw (decimal_is h) (omega (arith, not_above_lem 48 57 b h)))
      (λ h. by_two (is_letter b) (λ g. rw (letter_is h g) (omega (arith, not_above_lem 65 70 b g))) (λ g. rw (no_digit h g) (omega arith)))

-- ---- one digit more

pub larger : (i : ℕ) {v base d : ℕ} → v < 16 ^ i → base ≤ 16 → d < 16 → v * base + d < 16 ^ (i + 1)
larger i {v} {base} {d} h g k =
    rw (add-one i, pow-suc) (lt_of_le_of_lt (more (mul-le-mul_left v g)) (digits_lt h k))
  where
    more : v * base ≤ v * 16 → v * base + d ≤ v * 16 + d
    more l = omega arith

-- 16 digits fit in 64 bits
pub fits_word : (i : ℕ) {x : ℕ} → x < 16 ^ i → i ≤ 16 → x < 2 ^ 64
fits_word i h g = lt_of_lt_of_le h (pow-le-pow_right {n = 16} (omega arith) {i = i} {j = 16} g)

-- ---- a count has at most four digits

pub few_digits : (s : List ℕ) (at : ℕ) → digits_at s at ≤ 4
unfolding digits_at
few_digits s at = (seek-first _ 0 4 (omega arith)).high

-- ---- the tests of a count, one after the other, where d digits stand

module _ (s : List ℕ) (most at : ℕ) {d : ℕ} (e : d ≡ digits_at s at) where
  pub no_count : d < 1 → false ≡ count_stands s most at
  unfolding count_stands
  no_count h = rw (← e, lt-leb 1 d h)

  module _ (h : 1 ≤ d) {b : Bool} (g : b ≡ (eqb d 1 || not (eqb (byte_at s at) 48))) where
    pub led_by_zero : b ≡ false → false ≡ count_stands s most at
    unfolding count_stands
    led_by_zero k = rw (← e, le-leb 1 d h, ← g, k)

    module _ (k : b ≡ true) {n : ℕ} (q : n ≡ number_at 10 s d at) where
      pub too_many_lem : most < n → false ≡ count_stands s most at
      unfolding count_stands
      too_many_lem l = rw (← e, le-leb 1 d h, ← g, k, ← q, lt-leb n most l)

      pub line_ends : n ≤ most → eqb (byte_at s (at + d)) 10 ≡ count_stands s most at
      unfolding count_stands
      line_ends l = rw (← e, le-leb 1 d h, ← g, k, ← q, le-leb n most l)

-- ---- a count that stands is small enough

pub counted : (s : List ℕ) (most at : ℕ) → count_stands s most at ≡ true → count_at s at ≤ most
unfolding count_stands
counted s most at h =
    let d = digits_at s at in
    leb-true (count_at s at) most
    (and_left _ _ (and_right (eqb d 1 || not (eqb (byte_at s at) 48)) _ (and_right (leb 1 d) _ h)))

-- ---- past the end no digit stands

module _ (base : ℕ) (s : List ℕ) (at : ℕ) (h : length s ≤ at) where
  no_more : (n : ℕ) → turns 0 n (λ i v. v * base + digit_of (byte_at s (at + i))) 0 ≡ 0
  unfolding turns digit_of
  no_more zero = refl
  no_more (suc n) = rw (no_more n, get_or-eq_default s 0 (reached (0 + n)), zero-mul)
    where
      reached : (i : ℕ) → length s ≤ at + i
      reached i = omega arith

  pub nothing_past : (n : ℕ) → number_at base s n at ≡ 0
  unfolding number_at
  nothing_past n = no_more (n - 0)

-- ---- what a count that stands tells of its digits

module _ (s : List ℕ) (at : ℕ) where
  -- the first of several digits is no zero
  pub first_digit : 1 ≤ digits_at s at → eqb (byte_at s at) 48 ≡ false → 1 ≤ digit_of (byte_at s at)
  unfolding digits_at
  first_digit h g =
      let d : is_decimal (byte_at s at) ≡ true =
      ap (λ (i : ℕ). is_decimal (byte_at s i)) (sym (add-zero at)) ∙ not-false _ ((seek-first (λ i. not (is_decimal (byte_at s (at + i)))) 0 4 (omega arith)).before 0 (omega arith) h) in
      rw (decimal_is (byte_at s at) d) (omega (arith, not_below 48 57 (byte_at s at) d, eqb-false (byte_at s at) 48 g))

  module _ (most : ℕ) (h : count_stands s most at ≡ true) where
    pub at_least_one : 1 ≤ digits_at s at
    unfolding count_stands
    at_least_one = leb-true 1 (digits_at s at) (and_left _ _ h)

    pub no_zero : eqb (digits_at s at) 1 ≡ false → eqb (byte_at s at) 48 ≡ false
    unfolding count_stands
    no_zero g = led (eqb (digits_at s at) 1) (eqb (byte_at s at) 48) (and_left _ _ (and_right (leb 1 (digits_at s at)) _ h)) g
      where
        led : (a b : Bool) → (a || not b) ≡ true → a ≡ false → b ≡ false
        led true b e f = no (sym f)
        led false b e f = not-true b e
