-- Words, counts and numbers as `Written` gives them: the tests find them where they stand, and they are read back. Assumes nothing.
use mathlib.Core.Path.{◌≡◌, refl, sym, ap, ◌∙◌, subst}
use mathlib.Core.Bool.{Bool, true, false, not, ◌||◌}
use mathlib.Core.List.{List, [], ◌∷◌, ◌++◌, append_assoc}
use mathlib.Core.Logic.{inl, inr}
use Prim.Native.Nat.{ℕ, zero, suc, ◌+◌, ◌-◌, ◌*◌, ◌/◌, ◌%◌, ◌^◌, ◌≤◌, ◌<◌, zero-le}
use native.Mathlib.Nat.{le_of_suc-le-suc, zero-add, add-zero, add_assoc, mod-lt, div-add-mod', div-lt_iff_lt-mul, pow-zero, pow-suc, eq-or-lt_of_le}
use native.Mathlib.Omega.{arith}
use borrow.Author.Tests.{ltb-true, ltb-false, lt-ltb, le-leb, lt-leb, eqb-false, eq-eqb, ne_eqb}
use lib.Arith.{digits_lt}
use lib.Dec.{ltb, eqb}
use lib.ListN.{length, drop, length-append, get_or-append}
use lib.Seq.{drop-drop, drop-append_seam, get_or-drop, get_or_at}
use Rattle.meaning.specs.Loops.{turns}
use Rattle.meaning.proofs.Tests.{by_two}
use Rattle.meaning.proofs.Searching.{seek_is}
use Rattle.sheet_read.specs.Text.{text, byte_at, word_stands}
use Rattle.sheet_read.specs.Number.{is_decimal, is_hex, digit_of, glyph, number_at, digits_at, count_stands, double_stands}
use Rattle.sheet_read.specs.Grammar.{byte_after, number_place}
use Rattle.meaning.proofs.Every.{all}
use Rattle.sheet_read.specs.Written.{digits_text, count_text}
use Rattle.sheet_read.proofs.Numerals.{not_above_lem, decimal_is, line_ends}
use Rattle.sheet_read.specs.Content.{bits_at}
use Rattle.sheet_read.proofs.Canonical.{number_more}

-- ---- what is left of a text from a place on

pub record From (s : List ℕ) (a : ℕ) (t : List ℕ) : Type 0 where
  pub rest : drop a s ≡ t
  pub long : a + length t ≡ length s

module _ {s : List ℕ} {a : ℕ} (t u : List ℕ) (f : From s a (t ++ u)) where
  pub past : From s (a + length t) u
  past =
      record {
        rest = sym (drop-drop (length t) a s) ∙ ap (λ (l : List ℕ). drop (length t) l) f.rest ∙ drop-append_seam t u;
        long = add_assoc a (length t) (length u) ∙ ap (λ (k : ℕ). a + k) (sym (length-append t u)) ∙ f.long;
      }

  pub shown : (i : ℕ) → i < length t → byte_at s (a + i) ≡ byte_at t i
  shown i l = sym (get_or-drop a s i 0) ∙ ap (λ (x : List ℕ). byte_at x i) f.rest ∙ get_or-append t u 0 i l

  pub word_found : word_stands s t a ≡ true
  unfolding word_stands
  word_found = all (length t) (λ i. eqb (byte_at s (a + i)) (byte_at t i)) (λ i l. eq-eqb (byte_at s (a + i)) (byte_at t i) (shown i l))

-- the byte after t, where t has n bytes
one_shown : {s : List ℕ} {a n : ℕ} (t : List ℕ) (b : ℕ) (u : List ℕ) → From s a (t ++ ((b ∷ []) ++ u)) → length t ≡ n → byte_at s (a + n) ≡ b
one_shown {s} {a} {n} t b u f e = sym (get_or-drop a s n 0) ∙ ap (λ (x : List ℕ). byte_at x n) f.rest ∙ get_or_at t b u 0 n e

-- ---- a digit's byte

decimal_glyph : (d : ℕ) → d < 10 → is_decimal (glyph d) ≡ true
decimal_glyph d h = rw (lt-ltb d 10 h, le-leb 48 (48 + d) (omega arith), le-leb (48 + d) 57 (omega arith))

module _ (d : ℕ) (h : d < 16) where
  hex_glyph : is_hex (glyph d) ≡ true
  hex_glyph =
      by_two (ltb d 10) (λ e. rw (decimal_glyph d (ltb-true d 10 e)))
      (λ e.
      let l = ltb-false d 10 e in
      rw (e, le-leb 48 (55 + d) (omega arith), lt-leb (55 + d) 57 (omega arith), le-leb 65 (55 + d) (omega arith), le-leb (55 + d) 70 (omega arith)))

  glyph_back : digit_of (glyph d) ≡ d
  unfolding digit_of
  glyph_back =
      by_two (ltb d 10) (λ e. let l = ltb-true d 10 e in rw (e, le-leb 48 (48 + d) (omega arith), le-leb (48 + d) 57 (omega arith)) (omega arith))
      (λ e.
      let l = ltb-false d 10 e in
      rw (e, le-leb 48 (55 + d) (omega arith), lt-leb (55 + d) 57 (omega arith), le-leb 65 (55 + d) (omega arith), le-leb (55 + d) 70 (omega arith))
      (omega arith))

-- ---- digits

-- one byte more, at the end
one_more : (p : ℕ → Bool) (l : List ℕ) (x n i : ℕ) → length l ≡ n → i ≤ n → (i < n → p (byte_at l i) ≡ true) → p x ≡ true → p (byte_at (l ++ (x ∷ [])) i) ≡ true
one_more p l x n i e h f g =
    elim (eq-or-lt_of_le h) [
      | inl q ↦ ap p (get_or_at l x [] 0 i (e ∙ sym q)) ∙ g
      | inr m ↦ ap p (get_or-append l (x ∷ []) 0 i (rw e m)) ∙ f m
    ]

module _ (base : ℕ) where
  pub digits_long : (n v : ℕ) → length (digits_text base n v) ≡ n
  unfolding digits_text
  digits_long zero v = refl
  digits_long (suc n) v = length-append (digits_text base n (v / base)) _ ∙ omega (arith, digits_long n (v / base))

  module _ (pos : 0 < base) where
    -- what holds of each digit's byte holds of each byte
    digit_bytes : (p : ℕ → Bool) → ((d : ℕ) → d < base → p (glyph d) ≡ true) → (n v i : ℕ) → i < n → p (byte_at (digits_text base n v) i) ≡ true
    unfolding digits_text
    digit_bytes p h zero v i l = absurd (omega arith)
    digit_bytes p h (suc n) v i l =
        one_more p (digits_text base n (v / base)) (glyph (v % base)) n i (digits_long n (v / base)) (omega arith) (digit_bytes p h n (v / base) i) (h (v % base) (mod-lt v pos))

    -- n digits of a number that needs no more are read back as the number
    digits_back : base ≤ 16 → (s u : List ℕ) (a n v : ℕ) → v < base ^ n → From s a (digits_text base n v ++ u) → number_at base s n a ≡ v
    unfolding digits_text number_at turns
    digits_back low s u a zero v h f = omega (arith, pow-zero base)
    digits_back low s u a (suc n) v h f =
        let q = v / base in
        let d = glyph (v % base) in
        let g : From s a (digits_text base n q ++ ((d ∷ []) ++ u)) = rw append_assoc at f in
        let b = one_shown (digits_text base n q) d u g (digits_long n q) in
        number_more s base n a
        ∙ ap (λ (x : ℕ). x * base + digit_of (byte_at s (a + n))) (digits_back low s ((d ∷ []) ++ u) a n q ((div-lt_iff_lt-mul pos).1 (rw pow-suc at h)) g)
        ∙ ap (λ (x : ℕ). q * base + digit_of x) b
        ∙ ap (λ (x : ℕ). q * base + x) (glyph_back (v % base) (omega (arith, mod-lt v pos)))
        ∙ div-add-mod' v base

-- ---- a count

-- as many digits as n needs: d of them
pub record Sized (n d : ℕ) : Type 0 where
  pub some : 1 ≤ d
  pub few : d ≤ 4
  pub enough : n < 10 ^ d
  pub needed : 2 ≤ d → 10 ^ (d - 1) ≤ n
  pub text_is : count_text n ≡ digits_text 10 d n

pub sized : (n : ℕ) → n < 10000 → (d : ℕ) × Sized n d
unfolding count_text
sized n h =
    by_two (ltb n 10)
    (λ a. let l = ltb-true n 10 a in (1, record { some = omega arith; few = omega arith; enough = l; needed = λ g. absurd (omega arith); text_is = rw a }))
    (λ a.
    let l = ltb-false n 10 a in
    by_two (ltb n 100) (λ b. (2, record { some = omega arith; few = omega arith; enough = ltb-true n 100 b; needed = λ g. l; text_is = rw (a, b) }))
    (λ b.
    let m = ltb-false n 100 b in
    by_two (ltb n 1000) (λ c. (3, record { some = omega arith; few = omega arith; enough = ltb-true n 1000 c; needed = λ g. m; text_is = rw (a, b, c) }))
    (λ c. (4, record { some = omega arith; few = omega arith; enough = h; needed = λ g. ltb-false n 1000 c; text_is = rw (a, b, c) }))))

-- a number led by 0 has a digit less
led_by_zero : (s : List ℕ) (a n : ℕ) → byte_at s a ≡ 48 → ((i : ℕ) → i < suc n → digit_of (byte_at s (a + i)) < 10) → number_at 10 s (suc n) a < 10 ^ n
unfolding number_at turns digit_of
led_by_zero s a zero h g = rw (add-zero a, h) (omega arith)
led_by_zero s a (suc n) h g =
    rw (number_more s 10 (suc n) a, pow-suc) (digits_lt (led_by_zero s a n h (λ i l. g i (omega arith))) (g (suc n) (omega arith)))

module _ (s u : List ℕ) (a n d : ℕ) (z : Sized n d) (f : From s a (digits_text 10 d n ++ (text "\n" ++ u))) where
  decimal : (i : ℕ) → i < d → is_decimal (byte_at s (a + i)) ≡ true
  decimal i l =
      ap is_decimal (shown (digits_text 10 d n) (text "\n" ++ u) f i (rw (digits_long 10 d n) l))
      ∙ digit_bytes 10 (omega arith) is_decimal decimal_glyph d n i l

  end_of_line : byte_at s (a + d) ≡ 10
  end_of_line = one_shown (digits_text 10 d n) 10 u f (digits_long 10 d n)

  pub digits_found : d ≡ digits_at s a
  unfolding digits_at
  digits_found =
      seek_is (λ i. not (is_decimal (byte_at s (a + i)))) 0 4 d
      (record { low = zero-le; high = z.few; before = λ i g l. ap not (decimal i l); found = λ l. ap (λ (b : ℕ). not (is_decimal b)) end_of_line })

  pub count-found : n ≡ number_at 10 s d a
  count-found = sym (digits_back 10 (omega arith) (omega arith) s (text "\n" ++ u) a d n z.enough f)

  small_digit : (i : ℕ) → i < d → digit_of (byte_at s (a + i)) < 10
  small_digit i l = rw (decimal_is (byte_at s (a + i)) (decimal i l)) (omega (arith, not_above_lem 48 57 (byte_at s (a + i)) (decimal i l)))

  led : 2 ≤ d → eqb (byte_at s a) 48 ≡ false
  led g =
      let e : suc (d - 1) ≡ d = omega arith in
      ne_eqb (byte_at s a) 48 (λ h. absurd (omega (arith, z.needed g, count-found, rw e at (led_by_zero s a (d - 1) h (rw e small_digit)))))

  leads : (b : Bool) → eqb d 1 ≡ b → (b || not (eqb (byte_at s a) 48)) ≡ true
  leads true e = refl
  leads false e = ap not (led (omega (arith, z.some, eqb-false d 1 e)))

  pub count_stands_lem : (most : ℕ) → n ≤ most → count_stands s most a ≡ true
  count_stands_lem most l = sym (line_ends s most a digits_found z.some refl (leads (eqb d 1) refl) count-found l) ∙ eq-eqb (byte_at s (a + d)) 10 end_of_line

-- ---- numbers

module _ (s u : List ℕ) (a v e : ℕ) (h : v < 2 ^ 64) (f : From s a ((digits_text 16 16 v ++ (e ∷ [])) ++ u)) where
  apart : From s a (digits_text 16 16 v ++ ((e ∷ []) ++ u))
  apart = rw append_assoc at f

  number-found : double_stands s e a ≡ true
  unfolding double_stands
  number-found =
      rw (
        all 16 (λ i. is_hex (byte_at s (a + i))) (λ i l.
            ap is_hex (shown (digits_text 16 16 v) ((e ∷ []) ++ u) apart i (rw (digits_long 16 16 v) l))
            ∙ digit_bytes 16 (omega arith) is_hex hex_glyph 16 v i l),
        eq-eqb (byte_at s (a + 16)) e (one_shown (digits_text 16 16 v) e u apart (digits_long 16 16 v)),
      )

  number_back : number_at 16 s 16 a ≡ v
  number_back = digits_back 16 (omega arith) (omega arith) s ((e ∷ []) ++ u) a 16 v h apart

module _ (per : ℕ) (bits : ℕ → ℕ) where
  -- number j with the byte after it, and the first k of them
  abbrev pub one : ℕ → List ℕ
  one j = digits_text 16 16 (bits j) ++ (byte_after per j ∷ [])

  unfoldable pub first_ones : ℕ → List ℕ
  unfolding turns
  first_ones k = turns 0 k (λ j l. l ++ one j) []

  pub ones_long : (k : ℕ) → length (first_ones k) ≡ 17 * k
  unfolding first_ones
  ones_long zero = refl
  ones_long (suc k) =
      length-append (first_ones k) (one (0 + k))
      ∙ omega (arith, ones_long k, length-append (digits_text 16 16 (bits (0 + k))) (byte_after per (0 + k) ∷ []), digits_long 16 16 (bits (0 + k)))

  module _ (s : List ℕ) (start : ℕ) where
    -- number j stands at its place, and is read back
    pub record Number (j : ℕ) : Type 0 where
      pub stands : double_stands s (byte_after per j) (number_place start j) ≡ true
      pub back : bits_at s start j ≡ bits j

    here : (n : ℕ) (u : List ℕ) → bits n < 2 ^ 64 → From s start (first_ones n ++ (one n ++ u)) → Number n
    here n u h f =
        let g : From s (number_place start n) (one n ++ u) = rw (ones_long n) at (past (first_ones n) (one n ++ u) f) in
        record { stands = number-found s u (number_place start n) (bits n) (byte_after per n) h g; back = number_back s u (number_place start n) (bits n) (byte_after per n) h g }

    pub each_number : (n : ℕ) (u : List ℕ) → ((j : ℕ) → j < n → bits j < 2 ^ 64) → From s start (first_ones n ++ u) → (j : ℕ) → j < n → Number j
    unfolding first_ones
    each_number zero u h f j l = absurd (omega arith)
    each_number (suc n) u h f j l =
        let g : From s start (first_ones n ++ (one n ++ u)) = rw (zero-add, append_assoc) at f in
        elim (eq-or-lt_of_le (le_of_suc-le-suc l)) [
          | inl e ↦ subst Number (sym e) (here n u (h n (omega arith)) g)
          | inr m ↦ each_number n (one n ++ u) (λ k q. h k (omega arith)) g j m
        ]
