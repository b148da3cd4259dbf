-- A text that has the form is the one text of what it says. Assumes nothing.
use mathlib.Core.Path.{◌≡◌, refl, sym, ap, ◌∙◌, subst}
use mathlib.Core.Bool.{Bool, true, false, not, ◌&&◌, ◌||◌, cond}
use mathlib.Core.List.{List, [], ◌∷◌, ◌++◌, append_assoc, append-nil}
use Prim.Native.Nat.{ℕ, zero, suc, ◌+◌, ◌-◌, ◌*◌, ◌/◌, ◌%◌, ◌≤◌, ◌<◌}
use native.Mathlib.Nat.{zero-add, add-zero, sub-zero, add_assoc, le_refl}
use native.Mathlib.Numerals.{add-one, one-add}
use native.Mathlib.Omega.{arith}
use borrow.Author.Tests.{ltb-true, ltb-false, lt-ltb, le-ltb, eqb-true, ne_eqb, not-false}
use lib.Arith.{digits_div, digits_mod}
use lib.Dec.{leb, ltb, eqb}
use lib.ListN.{length, drop, get_or-eq_default}
use lib.Seq.{drop-cons, drop-length}
use Rattle.meaning.specs.Loops.{turns}
use Rattle.meaning.proofs.Tests.{no, by_two, and_left, and_right}
use Rattle.meaning.proofs.Searching.{seek-first}
use Rattle.meaning.specs.Search.{every}
use Rattle.knots.specs.declared.Form.{Form}
use Rattle.knots.specs.declared.Form.TheVariants.{Control, Fit}
use Rattle.sheet_read.specs.Text.{text, byte_at, solid, word_stands}
use Rattle.sheet_read.specs.Number.{is_decimal, is_letter, is_hex, digit_of, glyph, number_at, digits_at, count_at, count_stands, double_stands}
use Rattle.sheet_read.specs.Grammar.{byte_after, number_place, numbers_stand, Section, no_section, section_at, form_text, form_stands, form_of, sheet_of}
use Rattle.sheet_read.specs.Written.{digits_text, count_text, numbers_text, section_text, formed_text}
use Rattle.sheet_read.specs.Content.{bits_at}
use Rattle.meaning.proofs.Every.{each}
use Rattle.sheet_read.proofs.Sections.{whole}
use Rattle.sheet_read.proofs.Numerals.{not_below, not_above_lem, decimal_is, letter_is, few_digits, first_digit, at_least_one, no_zero}

-- a byte that is a digit in the base is the digit's own
pub record Digit (base b : ℕ) : Type 0 where
  pub own : glyph (digit_of b) ≡ b
  pub small : digit_of b < base

-- ---- a text that stands in s from a to b

pub record Stands (s : List ℕ) (a : ℕ) (t : List ℕ) (b : ℕ) : Type 0 where
  pub rest : drop a s ≡ t ++ drop b s

module _ {s : List ℕ} where
  pub nothing : {a : ℕ} → Stands s a [] a
  nothing = record { rest = refl }

  pub joined : {a b c : ℕ} {t u : List ℕ} → Stands s a t b → Stands s b u c → Stands s a (t ++ u) c
  joined {c = c} {t = t} {u = u} x y = record { rest = x.rest ∙ ap (λ (l : List ℕ). t ++ l) y.rest ∙ sym (append_assoc t u (drop c s)) }

module _ (s : List ℕ) where
  -- a byte that is not 0 lies within the text
  within_text : (a b : ℕ) → byte_at s a ≡ b → 1 ≤ b → a < length s
  within_text a b e h =
      by_two (ltb a (length s)) (ltb-true a (length s)) (λ f. absurd (omega (arith, e, h, get_or-eq_default s 0 (ltb-false a (length s) f))))

  one_byte : (a b : ℕ) → byte_at s a ≡ b → 1 ≤ b → Stands s a (b ∷ []) (a + 1)
  one_byte a b e h = record { rest = drop-cons s a 0 (within_text a b e h) ∙ (λ i. e i ∷ drop (sym (add-one a) i) s) }

  -- ---- a word

  spelt : (w : List ℕ) (a : ℕ) → solid w ≡ true → ((i : ℕ) → i < length w → byte_at s (a + i) ≡ byte_at w i) → Stands s a w (a + length w)
  spelt [] a h e = rw (add-zero a) nothing
  spelt (x ∷ w) a h e =
      let first : byte_at s a ≡ x = ap (λ (k : ℕ). byte_at s k) (sym (add-zero a)) ∙ e 0 (omega arith) in
      let more : Stands s (a + 1) w (a + 1 + length w) =
      spelt w (a + 1) (and_right (ltb 0 x) (solid w) h) (λ i l. ap (λ (k : ℕ). byte_at s k) (add_assoc a 1 i ∙ ap (λ (k : ℕ). a + k) (one-add i)) ∙ e (suc i) (omega arith)) in
      let end : a + 1 + length w ≡ a + suc (length w) = omega arith in
      rw (← end) (joined (one_byte a x first (ltb-true 0 x (and_left (ltb 0 x) (solid w) h))) more)

  pub word_stands_lem : (w : List ℕ) (a : ℕ) → solid w ≡ true → word_stands s w a ≡ true → Stands s a w (a + length w)
  unfolding word_stands
  word_stands_lem w a h g =
      spelt w a h (λ i l. eqb-true (byte_at s (a + i)) (byte_at w i) (each (length w) (λ k. eqb (byte_at s (a + k)) (byte_at w k)) g i l))

  -- ---- digits

  pub number_more : (base n a : ℕ) → number_at base s (suc n) a ≡ number_at base s n a * base + digit_of (byte_at s (a + n))
  unfolding number_at turns
  number_more base n a = rw (sub-zero (suc n), sub-zero n, zero-add n)

  pub digits_stand : (base n a : ℕ) → ((i : ℕ) → i < n → Digit base (byte_at s (a + i))) → Stands s a (digits_text base n (number_at base s n a)) (a + n)
  unfolding digits_text
  digits_stand base zero a h = rw (add-zero a) nothing
  digits_stand base (suc n) a h =
      let d = h n (omega arith) in
      let q : number_at base s (suc n) a / base ≡ number_at base s n a = ap (λ (v : ℕ). v / base) (number_more base n a) ∙ digits_div (number_at base s n a) d.small in
      let r : number_at base s (suc n) a % base ≡ digit_of (byte_at s (a + n)) = ap (λ (v : ℕ). v % base) (number_more base n a) ∙ digits_mod (number_at base s n a) d.small in
      let end : a + n + 1 ≡ a + suc n = omega arith in
      rw (← end, q, r) (joined (digits_stand base n a (λ i l. h i (omega arith))) (one_byte (a + n) (glyph (digit_of (byte_at s (a + n)))) (sym d.own) (visible (digit_of (byte_at s (a + n))))))
    where
      visible : (k : ℕ) → 1 ≤ glyph k
      visible k = by_two (ltb k 10) (λ e. rw e (omega arith)) (λ e. rw e (omega arith))

-- which bytes are digits
decimal_digit : (b : ℕ) → is_decimal b ≡ true → Digit 10 b
decimal_digit b h =
    let e = decimal_is b h in
    let l = not_below 48 57 b h in
    let m = not_above_lem 48 57 b h in
    record { own = rw (e, lt-ltb (b - 48) 10 (omega arith)) (omega arith); small = rw e (omega arith) }

letter_digit : (b : ℕ) → is_decimal b ≡ false → is_letter b ≡ true → Digit 16 b
letter_digit b g h =
    let e = letter_is b g h in
    let l = not_below 65 70 b h in
    let m = not_above_lem 65 70 b h in
    record { own = rw (e, le-ltb (b - 55) 10 (omega arith)) (omega arith); small = rw e (omega arith) }

hex_digit : (b : ℕ) → is_hex b ≡ true → Digit 16 b
hex_digit b h =
    by_two (is_decimal b) (λ e. let d = decimal_digit b e in record { own = d.own; small = omega (arith, d.small) })
    (λ e. letter_digit b e (sym (rw e) ∙ h))

module _ (s : List ℕ) where
  -- ---- a count

  module _ (a : ℕ) where
    x : ℕ → ℕ
    x i = digit_of (byte_at s (a + i))

    one_is : number_at 10 s 1 a ≡ x 0
    unfolding number_at turns x
    one_is = omega arith

    two_is : number_at 10 s 2 a ≡ x 0 * 10 + x 1
    unfolding number_at turns x
    two_is = omega arith

    three_is : number_at 10 s 3 a ≡ (x 0 * 10 + x 1) * 10 + x 2
    unfolding number_at turns x
    three_is = omega arith

    four_is : number_at 10 s 4 a ≡ ((x 0 * 10 + x 1) * 10 + x 2) * 10 + x 3
    unfolding number_at turns x
    four_is = omega arith

    -- d digits, of which the first is no zero if there are more, are as many as the number needs
    needed : (d : ℕ) → 1 ≤ d → d ≤ 4 → ((i : ℕ) → i < d → x i < 10) → (2 ≤ d → 1 ≤ x 0) → digits_text 10 d (number_at 10 s d a) ≡ count_text (number_at 10 s d a)
    unfolding count_text
    needed zero h g l f = absurd (omega arith)
    needed (suc zero) h g l f = rw (lt-ltb (number_at 10 s 1 a) 10 (omega (arith, one_is, l 0 (omega arith))))
    needed (suc (suc zero)) h g l f =
        rw (le-ltb (number_at 10 s 2 a) 10 (omega (arith, two_is, f (omega arith))), lt-ltb (number_at 10 s 2 a) 100 (omega (arith, two_is, l 0 (omega arith), l 1 (omega arith))))
    needed (suc (suc (suc zero))) h g l f =
        rw (
          le-ltb (number_at 10 s 3 a) 10 (omega (arith, three_is, f (omega arith))),
          le-ltb (number_at 10 s 3 a) 100 (omega (arith, three_is, f (omega arith))),
          lt-ltb (number_at 10 s 3 a) 1000 (omega (arith, three_is, l 0 (omega arith), l 1 (omega arith), l 2 (omega arith))),
        )
    needed (suc (suc (suc (suc zero)))) h g l f =
        rw (
          le-ltb (number_at 10 s 4 a) 10 (omega (arith, four_is, f (omega arith))),
          le-ltb (number_at 10 s 4 a) 100 (omega (arith, four_is, f (omega arith))),
          le-ltb (number_at 10 s 4 a) 1000 (omega (arith, four_is, f (omega arith))),
        )
    needed (suc (suc (suc (suc (suc d))))) h g l f = absurd (omega arith)

    -- each of the digits is one
    decimals : (i : ℕ) → i < digits_at s a → is_decimal (byte_at s (a + i)) ≡ true
    unfolding digits_at
    decimals i h = not-false _ ((seek-first (λ k. not (is_decimal (byte_at s (a + k)))) 0 4 (omega arith)).before i (omega arith) h)

    led : (most : ℕ) → count_stands s most a ≡ true → 2 ≤ digits_at s a → 1 ≤ x 0
    unfolding x
    led most h g =
        rw (add-zero a)
        (first_digit s a (at_least_one s a most h) (no_zero s a most h (ne_eqb (digits_at s a) 1 (λ q. omega (arith, q, g)))))

    own : (i : ℕ) → i < digits_at s a → Digit 10 (byte_at s (a + i))
    own i l = decimal_digit (byte_at s (a + i)) (decimals i l)

    pub count_stands_lem : (most : ℕ) → count_stands s most a ≡ true → Stands s a (count_text (count_at s a)) (a + digits_at s a)
    unfolding x
    count_stands_lem most h =
        let d = digits_at s a in
        rw (← (needed d (at_least_one s a most h) (few_digits s a) (λ i l. (own i l).small) (led most h))) (digits_stand s 10 d a own)

    pub line_ends : (most : ℕ) → count_stands s most a ≡ true → Stands s (a + digits_at s a) (text "\n") (a + digits_at s a + 1)
    unfolding count_stands
    line_ends most h =
        let d = digits_at s a in
        one_byte s (a + d) 10
        (eqb-true (byte_at s (a + d)) 10
        (and_right (leb (count_at s a) most) _ (and_right (eqb d 1 || not (eqb (byte_at s a) 48)) _ (and_right (leb 1 d) _ h)))) (omega arith)

  -- ---- numbers

  number_stands : (e a : ℕ) → 1 ≤ e → double_stands s e a ≡ true → Stands s a (digits_text 16 16 (number_at 16 s 16 a) ++ (e ∷ [])) (a + 17)
  unfolding double_stands
  number_stands e a v h =
      let digits = digits_stand s 16 16 a (λ i l. hex_digit (byte_at s (a + i)) (each 16 (λ k. is_hex (byte_at s (a + k))) (and_left _ _ h) i l)) in
      let last = one_byte s (a + 16) e (eqb-true (byte_at s (a + 16)) e (and_right (every 16 (λ k. is_hex (byte_at s (a + k)))) _ h)) v in
      let end : a + 16 + 1 ≡ a + 17 = add_assoc a 16 1 in
      rw (← end) (joined digits last)

  after_visible : (per j : ℕ) → 1 ≤ byte_after per j
  after_visible per j = by_two (eqb (j % per) (per - 1)) (λ e. rw e (omega arith)) (λ e. rw e (omega arith))

  module _ (per n start : ℕ) (h : numbers_stand s per n start ≡ true) where
    some_stand : (k : ℕ) → k ≤ n
        → Stands s start (turns 0 k (λ j l. l ++ (digits_text 16 16 (bits_at s start j) ++ (byte_after per j ∷ []))) []) (number_place start k)
    unfolding turns numbers_stand
    some_stand zero l = rw (add-zero start) nothing
    some_stand (suc k) l =
        let one = number_stands (byte_after per k) (number_place start k) (after_visible per k) (each n (λ j. double_stands s (byte_after per j) (number_place start j)) h k (omega arith)) in
        let end : number_place start k + 17 ≡ number_place start (suc k) = omega arith in
        rw (← end, zero-add k) (joined (some_stand k (omega arith)) one)

    pub numbers_stand_lem : Stands s start (numbers_text per (bits_at s start) n) (number_place start n)
    unfolding numbers_text
    numbers_stand_lem = rw (sub-zero n) (some_stand n (le_refl n))

  -- ---- sections

  formed_by : (b : Bool) (r : Section) → (cond b r no_section).formed ≡ true → b ≡ true
  formed_by true r h = refl
  formed_by false r h = no h

  module _ (w : List ℕ) (most per at : ℕ) (visible : solid w ≡ true) (h : (section_at s w most per at).formed ≡ true) where
    tests : word_stands s w at
        && (count_stands s most (at + length w)
        && numbers_stand s per (per * count_at s (at + length w)) (at + length w + digits_at s (at + length w) + 1))
        ≡ true
    unfolding section_at
    tests = formed_by _ _ h

    pub section_stands : Stands s at (section_text w per (bits_at s (section_at s w most per at).start) (section_at s w most per at).count) (section_at s w most per at).next
    unfolding section_text
    section_stands =
        let c = at + length w in
        let t = and_left (word_stands s w at) _ tests in
        let u = and_left (count_stands s most c) _ (and_right (word_stands s w at) _ tests) in
        let v = and_right (count_stands s most c) _ (and_right (word_stands s w at) _ tests) in
        subst (λ (x : Section). Stands s at (w ++ (count_text x.count ++ (text "\n" ++ numbers_text per (bits_at s x.start) (per * x.count)))) x.next)
        (whole s w most per at t u refl refl v)
        (joined (word_stands_lem s w at visible t)
        (joined (count_stands_lem c most u) (joined (line_ends c most u) (numbers_stand_lem per (per * count_at s c) (c + digits_at s c + 1) v))))

  -- ---- the sheet

  form_stands_lem : (form : Form) → form_stands s form ≡ true → Stands s 0 (form_text form) (length (form_text form))
  form_stands_lem Control h = word_stands_lem s (form_text Control) 0 refl h
  form_stands_lem Fit h = word_stands_lem s (form_text Fit) 0 refl h

  -- all of the text
  ended : (t : List ℕ) (b : ℕ) → Stands s 0 t b → b ≡ length s → s ≡ t
  ended t b x e = x.rest ∙ ap (λ (k : ℕ). t ++ drop k s) e ∙ ap (λ (l : List ℕ). t ++ l) (drop-length s) ∙ append-nil t

  pub canonical : (sheet_of s).formed ≡ true
      → s
      ≡ formed_text (sheet_of s).form (bits_at s (sheet_of s).points.start) (sheet_of s).points.count (bits_at s (sheet_of s).knots.start) (sheet_of s).knots.count
      (bits_at s (sheet_of s).parameters.start) (sheet_of s).parameters.count
  unfolding sheet_of formed_text
  canonical h =
      let form = form_of s in
      let first = length (form_text form) in
      let p = section_at s (text "points ") 66 2 first in
      let k = section_at s (text "knots ") 70 1 p.next in
      let a = section_at s (text "at ") 1024 1 k.next in
      let f1 = and_right (form_stands s form) _ h in
      let f2 = and_right p.formed _ f1 in
      let f3 = and_right k.formed _ f2 in
      ended _ a.next
      (joined (form_stands_lem form (and_left (form_stands s form) _ h))
      (joined (section_stands (text "points ") 66 2 first refl (and_left p.formed _ f1))
      (joined (section_stands (text "knots ") 70 1 p.next refl (and_left k.formed _ f2))
      (section_stands (text "at ") 1024 1 k.next refl (and_left a.formed _ f3)))))
      (eqb-true a.next (length s) (and_right a.formed _ f3))
