-- The tests of a section, one after the other, and how far it reaches. Assumes nothing.
use mathlib.Core.Path.{◌≡◌, refl, subst}
use mathlib.Core.Bool.{Bool, true, false, ◌&&◌}
use mathlib.Core.List.{List}
use Prim.Native.Nat.{ℕ, ◌+◌, ◌*◌, ◌≤◌}
use native.Mathlib.Nat.{mul-le-mul_left, le_trans}
use native.Mathlib.Omega.{arith}
use lib.ListN.{length}
use lib.Dec.{eqb}
use Rattle.meaning.proofs.Tests.{by_two}
use Rattle.knots.specs.declared.Form.{Form}
use Rattle.knots.specs.declared.Form.TheVariants.{Control, Fit}
use Rattle.sheet_read.specs.Text.{text, word_stands}
use Rattle.sheet_read.specs.Number.{number_at, digits_at, count_at, count_stands}
use Rattle.sheet_read.specs.Grammar.{numbers_stand, Section, no_section, section_at, form_text, form_stands, form_of, Sheet, sheet_of}
use Rattle.sheet_read.proofs.Numerals.{counted, few_digits}

module _ (s w : List ℕ) (most per at : ℕ) where
  pub no_word : word_stands s w at ≡ false → no_section ≡ section_at s w most per at
  unfolding section_at
  no_word h = rw h

  pub no_count : word_stands s w at ≡ true → count_stands s most (at + length w) ≡ false → no_section ≡ section_at s w most per at
  unfolding section_at
  no_count h g = rw (h, g)

  -- d digits of the count n
  module _ (h : word_stands s w at ≡ true) (g : count_stands s most (at + length w) ≡ true) {d n : ℕ} (e : d ≡ digits_at s (at + length w))
      (q : n ≡ number_at 10 s d (at + length w)) where
    pub no_numbers : numbers_stand s per (per * n) (at + length w + d + 1) ≡ false → no_section ≡ section_at s w most per at
    unfolding section_at
    no_numbers k = rw (h, g, ← e, ← q, k)

    pub whole : numbers_stand s per (per * n) (at + length w + d + 1) ≡ true
        → ◌≡◌ {A = Section} (record { formed = true; count = n; start = at + length w + d + 1; next = at + length w + d + 1 + 17 * (per * n) }) (section_at s w most per at)
    unfolding section_at
    whole k = rw (h, g, ← e, ← q, k)

    -- the lines of a section are few, and so are its numbers
    pub few_lines : n ≤ most
    few_lines = rw (q, e) (counted s most (at + length w) g)

    pub few-numbers : per * n ≤ per * most
    few-numbers = mul-le-mul_left per few_lines

  -- what holds where there is no section, and of every one of at most `most` lines after at most four digits, holds of what is read
  pub any_section : (P : Section → Type 0) → P no_section
      → ((n d : ℕ) → n ≤ most → d ≤ 4 → P (record { formed = true; count = n; start = at + length w + d + 1; next = at + length w + d + 1 + 17 * (per * n) }))
      → P (section_at s w most per at)
  any_section P none some =
      by_two (word_stands s w at) (λ h.
      by_two (count_stands s most (at + length w)) (λ g.
      by_two (numbers_stand s per (per * count_at s (at + length w)) (at + length w + digits_at s (at + length w) + 1))
      (λ k. subst P (whole h g refl refl k) (some _ _ (few_lines h g refl refl) (few_digits s (at + length w))))
      (λ k. subst P (no_numbers h g refl refl k) none))
      (λ g. subst P (no_count h g) none))
      (λ h. subst P (no_word h) none)

  -- how far a section reaches, where its numbers begin, and how many lines it has
  pub reach : (section_at s w most per at).next ≤ at + length w + 5 + 17 * (per * most)
  reach = any_section (λ x. x.next ≤ at + length w + 5 + 17 * (per * most)) (omega arith) (λ n d h g. omega (arith, mul-le-mul_left per h))

  pub begin : (section_at s w most per at).start ≤ at + length w + 5
  begin = any_section (λ x. x.start ≤ at + length w + 5) (omega arith) (λ n d h g. omega arith)

  pub lines : (section_at s w most per at).count ≤ most
  lines = any_section (λ x. x.count ≤ most) (omega arith) (λ n d h g. h)

-- ---- the sheet, section after section

pub first_line : (form : Form) → length (form_text form) ≤ 8
first_line Control = omega arith
first_line Fit = omega arith

-- over any reader of the first line and of each section, and any end
chained : (S : Form → Bool) (P K A : ℕ → Section) (end : ℕ) (w : Form) {form : Form} {stands formed : Bool} {at : ℕ} {points knots parameters : Section}
    → form ≡ w → stands ≡ S form → at ≡ length (form_text form) → points ≡ P at → knots ≡ K points.next → parameters ≡ A knots.next
    → formed ≡ (stands && (points.formed && (knots.formed && (parameters.formed && eqb parameters.next end))))
    → ◌≡◌ {A = Sheet} (record { formed = formed; form = form; points = points; knots = knots; parameters = parameters })
    (let p = P (length (form_text w)) in
    let k = K p.next in
    let a = A k.next in
    record { formed = S w && (p.formed && (k.formed && (a.formed && eqb a.next end))); form = w; points = p; knots = k; parameters = a })
chained S P K A end w e g a p k q f = rw (f, g, q, k, p, a, e)

pub assembled : (s : List ℕ) {form : Form} {stands formed : Bool} {at : ℕ} {points knots parameters : Section}
    → form ≡ form_of s → stands ≡ form_stands s form → at ≡ length (form_text form)
    → points ≡ section_at s (text "points ") 66 2 at → knots ≡ section_at s (text "knots ") 70 1 points.next → parameters ≡ section_at s (text "at ") 1024 1 knots.next
    → formed ≡ (stands && (points.formed && (knots.formed && (parameters.formed && eqb parameters.next (length s)))))
    → ◌≡◌ {A = Sheet} (record { formed = formed; form = form; points = points; knots = knots; parameters = parameters }) (sheet_of s)
unfolding sheet_of
assembled s =
    chained (form_stands s) (section_at s (text "points ") 66 2) (section_at s (text "knots ") 70 1) (section_at s (text "at ") 1024 1) (length s) (form_of s)

-- ---- the limits of every sheet

pub record Limits (x : Sheet) : Type 0 where
  pub points : (x.points.count ≤ 66) × (x.points.start ≤ 20)
  pub knots : (x.knots.count ≤ 70) × (x.knots.start ≤ 2275)
  pub parameters : (x.parameters.count ≤ 1024) × (x.parameters.start ≤ 3473)

pub limits : (s : List ℕ) → Limits (sheet_of s)
unfolding sheet_of
limits s =
    let form = form_of s in
    let f = first_line form in
    let p = reach s (text "points ") 66 2 (length (form_text form)) in
    let k = reach s (text "knots ") 70 1 (section_at s (text "points ") 66 2 (length (form_text form))).next in
    record {
      points = (lines s (text "points ") 66 2 _, le_trans (begin s (text "points ") 66 2 _) (omega arith));
      knots = (lines s (text "knots ") 70 1 _, le_trans (begin s (text "knots ") 70 1 _) (omega arith));
      parameters = (lines s (text "at ") 1024 1 _, le_trans (begin s (text "at ") 1024 1 _) (omega arith));
    }
