-- No text that has the form is longer than 20,877 bytes. Assumes nothing.
use mathlib.Core.Path.{◌≡◌, refl, subst}
use mathlib.Core.Bool.{true}
use mathlib.Core.List.{List}
use Prim.Native.Nat.{ℕ, ◌+◌, ◌*◌, ◌≤◌, ◌<◌}
use native.Mathlib.Nat.{add-zero}
use native.Mathlib.Omega.{arith}
use borrow.Author.Tests.{leb-true, leb-false, eqb-true, eqb-false, ne_eqb}
use lib.Dec.{leb, eqb}
use lib.ListN.{length}
use Rattle.meaning.specs.Loops.{turns}
use Rattle.meaning.proofs.Tests.{by_two, and_right}
use Rattle.sheet_read.specs.Text.{text, byte_at, word_stands}
use Rattle.sheet_read.specs.Number.{digit_of, number_at, digits_at, count_at, count_stands}
use Rattle.sheet_read.specs.Grammar.{numbers_stand, Section, section_at, form_text, form_stands, form_of, sheet_of}
use Rattle.sheet_read.proofs.Numerals.{few_digits, counted, first_digit, at_least_one, no_zero}
use Rattle.sheet_read.proofs.Sections.{no_word, no_count, no_numbers, whole, few-numbers, first_line}

-- ---- a count below 100 has at most two digits

module _ (s : List ℕ) (at : ℕ) where
  three_digits : 100 * digit_of (byte_at s at) ≤ number_at 10 s 3 at
  unfolding number_at turns
  three_digits = rw (add-zero at) (omega arith)

  four_digits : 1000 * digit_of (byte_at s at) ≤ number_at 10 s 4 at
  unfolding number_at turns
  four_digits = rw (add-zero at) (omega arith)

  module _ (most : ℕ) (h : count_stands s most at ≡ true) where
    -- several digits, of which the first is no zero
    several : (d : ℕ) → digits_at s at ≡ d → 2 ≤ d → (1 ≤ digit_of (byte_at s at)) × (number_at 10 s d at ≤ most)
    several d e g = (
      first_digit s at (at_least_one s at most h) (no_zero s at most h (ne_eqb (digits_at s at) 1 (λ q. omega (arith, e, g)))),
      subst (λ (k : ℕ). number_at 10 s k at ≤ most) e (counted s most at h),
    )

    pub two_digits : most < 100 → digits_at s at ≤ 2
    two_digits small =
        by_two (leb (digits_at s at) 2) (leb-true (digits_at s at) 2) (λ p.
        by_two (eqb (digits_at s at) 3)
        (λ q. let r = several 3 (eqb-true (digits_at s at) 3 q) (omega arith) in absurd (omega (arith, three_digits, r.0, r.1)))
        (λ q.
        let e : digits_at s at ≡ 4 = omega (arith, leb-false (digits_at s at) 2 p, eqb-false (digits_at s at) 3 q, few_digits s at) in
        let r = several 4 e (omega arith) in
        absurd (omega (arith, four_digits, r.0, r.1))))

-- ---- how long a section is, where its count has at most k digits

module _ (s w : List ℕ) (most per at k : ℕ) (few : count_stands s most (at + length w) ≡ true → digits_at s (at + length w) ≤ k) where
  pub section_end : (section_at s w most per at).next ≤ at + length w + k + 1 + 17 * (per * most)
  section_end =
      let c = at + length w in
      by_two (word_stands s w at) (λ h.
      by_two (count_stands s most c) (λ g.
      by_two (numbers_stand s per (per * count_at s c) (c + digits_at s c + 1))
      (λ p.
      subst (λ (x : Section). x.next ≤ c + k + 1 + 17 * (per * most)) (whole s w most per at h g refl refl p)
      (omega (arith, few g, few-numbers s w most per at h g refl refl)))
      (λ p. subst (λ (x : Section). x.next ≤ c + k + 1 + 17 * (per * most)) (no_numbers s w most per at h g refl refl p) (omega arith)))
      (λ g. subst (λ (x : Section). x.next ≤ c + k + 1 + 17 * (per * most)) (no_count s w most per at h g) (omega arith)))
      (λ h. subst (λ (x : Section). x.next ≤ c + k + 1 + 17 * (per * most)) (no_word s w most per at h) (omega arith))

-- 8 bytes of the form; 7, 3 and 66 lines of 34; 6, 3 and 70 of 17; 3, 5 and 1024 of 17
pub longest : (s : List ℕ) → (sheet_of s).formed ≡ true → length s ≤ 20877
unfolding sheet_of
longest s h =
    let form = form_of s in
    let first = length (form_text form) in
    let p = section_at s (text "points ") 66 2 first in
    let k = section_at s (text "knots ") 70 1 p.next in
    let a = section_at s (text "at ") 1024 1 k.next in
    let e : a.next ≡ length s =
    eqb-true a.next (length s)
    (and_right a.formed _ (and_right k.formed _ (and_right p.formed _ (and_right (form_stands s form) _ h)))) in
    let p-end = section_end s (text "points ") 66 2 first 2 (λ g. two_digits s (first + 7) 66 g (omega arith)) in
    let k-end = section_end s (text "knots ") 70 1 p.next 2 (λ g. two_digits s (p.next + 6) 70 g (omega arith)) in
    let a-end = section_end s (text "at ") 1024 1 k.next 4 (λ g. few_digits s (k.next + 3)) in
    omega (arith, first_line form)
