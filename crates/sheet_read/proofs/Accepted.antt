-- Every text that `Written` gives has the form and says what was written, which is the converse of `Canonical`: so the texts that have the form are the written
-- ones, one for each content within the limits (`accepted`, `read_back`, `exactly`, `one_content`). Assumes nothing.
use mathlib.Core.Path.{◌≡◌, refl, sym, ap, ◌∙◌, subst}
use mathlib.Core.Bool.{true, false}
use mathlib.Core.List.{List, [], ◌++◌, map, append_assoc, append-nil}
use mathlib.Core.Logic.{◌↔◌}
use Prim.Native.Nat.{ℕ, zero, suc, ◌+◌, ◌*◌, ◌^◌, ◌≤◌, ◌<◌}
use native.Mathlib.Nat.{zero-add, add-zero, sub-zero, pow-zero, pow-suc}
use native.Mathlib.Omega.{arith}
use borrow.Author.Tests.{eqb-true, eq-eqb}
use lib.Arith.{digits_lt}
use lib.Dec.{eqb}
use lib.Ieee.{binary64, of_bits}
use lib.ListN.{length, get_or}
use lib.Seq.{ext_get_or}
use Rattle.meaning.specs.Loops.{turns}
use Rattle.meaning.specs.Search.{listed}
use Rattle.meaning.proofs.Tests.{refuted}
use Rattle.meaning.proofs.Every.{all, each}
use Rattle.meaning.proofs.Filling.{length-listed, nth_listed, map_listed}
use Rattle.knots.specs.declared.Form.{Form}
use Rattle.knots.specs.declared.Form.TheVariants.{Control, Fit}
use Rattle.sheet_read.specs.Text.{text, byte_at, word_stands}
use Rattle.sheet_read.specs.Number.{number_at, double_stands}
use Rattle.sheet_read.specs.Grammar.{byte_after, number_place, numbers_stand, numbers_at, Section, section_at, form_text, form_of, Sheet, sheet_of}
use Rattle.sheet_read.specs.Written.{digits_text, count_text, numbers_text, section_text, formed_text}
use Rattle.sheet_read.specs.Content.{Lines, Content, Fits, Within, bits_of, written, bits_at, lines_at, said_by, said}
use Rattle.sheet_read.proofs.Numerals.{digit_small}
use Rattle.sheet_read.proofs.Sections.{whole, assembled, limits}
use Rattle.sheet_read.proofs.Canonical.{number_more, canonical}
use Rattle.sheet_read.proofs.ReadBack.{From, past, shown, word_found, digits_long, Sized, sized, digits_found, count-found, count_stands_lem, first_ones, ones_long, Number, each_number}

-- ---- sections

-- a section that has the form says x, and after it u is left
record Read (s u : List ℕ) (per : ℕ) (x : Lines) (r : Section) : Type 0 where
  pub formed : r.formed ≡ true
  pub says : lines_at s per r ≡ x
  pub after : From s r.next u

module _ (s w u : List ℕ) (most per at : ℕ) (x : Lines) (h : Fits most per x) (f : From s at (section_text w per (bits_of x) x.count ++ u)) where
  module _ (d : ℕ) (z : Sized x.count d) where
    abbrev n : ℕ
    n = x.count

    abbrev c : ℕ
    c = at + length w

    abbrev start : ℕ
    start = c + d + 1

    abbrev numbers : List ℕ
    numbers = first_ones per (bits_of x) (per * n)

    from_word : From s at (w ++ (digits_text 10 d n ++ (text "\n" ++ (numbers ++ u))))
    unfolding section_text numbers_text first_ones
    from_word = rw (append_assoc, append_assoc, sub-zero, z.text_is) at f

    from-count : From s c (digits_text 10 d n ++ (text "\n" ++ (numbers ++ u)))
    from-count = past w (digits_text 10 d n ++ (text "\n" ++ (numbers ++ u))) from_word

    from_start : From s start (numbers ++ u)
    from_start = past (text "\n") (numbers ++ u) (rw (digits_long 10 d n) at (past (digits_text 10 d n) (text "\n" ++ (numbers ++ u)) from-count))

    number-at : (j : ℕ) → j < per * n → Number per (bits_of x) s start j
    number-at = each_number per (bits_of x) s start (per * n) u h.small from_start

    numbers-found : numbers_stand s per (per * n) start ≡ true
    unfolding numbers_stand
    numbers-found = all (per * n) (λ j. double_stands s (byte_after per j) (number_place start j)) (λ j l. (number-at j l).stands)

    bits_back : listed 0 (per * n) (bits_at s start) ≡ x.bits
    bits_back =
        let e = length-listed 0 (per * n) (bits_at s start) in
        ext_get_or 0 (listed 0 (per * n) (bits_at s start)) x.bits (e ∙ sym h.full)
        (λ j l. let m : j < per * n = rw e at l in nth_listed (per * n) j (bits_at s start) 0 m ∙ (number-at j m).back)

    sized_read : Read s u per x (section_at s w most per at)
    unfolding lines_at
    sized_read =
        let numbers_after = numbers ++ u in
        subst (λ (r : Section). Read s u per x r)
        (whole s w most per at (word_found w (digits_text 10 d n ++ (text "\n" ++ numbers_after)) from_word) (count_stands_lem s numbers_after c n d z from-count most h.few)
        (digits_found s numbers_after c n d z from-count) (count-found s numbers_after c n d z from-count) numbers-found)
        (record { formed = refl; says = λ i. record { count = n; bits = bits_back i }; after = rw (ones_long per (bits_of x) (per * n)) at (past numbers u from_start) })

  section_read : most < 10000 → Read s u per x (section_at s w most per at)
  section_read l = let z = sized x.count (omega (arith, h.few)) in sized_read z.0 z.1

-- ---- the sheet

module _ (s u : List ℕ) where
  -- a word does not stand where one does that has another byte at i
  apart : (v w : List ℕ) (i : ℕ) → i < length v → i < length w → (byte_at v i ≡ byte_at w i → ⊥) → From s 0 (v ++ u) → word_stands s w 0 ≡ false
  unfolding word_stands
  apart v w i l m d f =
      refuted _ (λ h. d (sym (shown v u f i l) ∙ eqb-true (byte_at s (0 + i)) (byte_at w i) (each (length w) (λ k. eqb (byte_at s (0 + k)) (byte_at w k)) h i m)))

  -- the first line says its form, and no other
  form_is : (form : Form) → From s 0 (form_text form ++ u) → form ≡ form_of s
  form_is Control f = rw (apart (form_text Control) (form_text Fit) 0 (omega arith) (omega arith) (λ e. omega arith) f)
  form_is Fit f = rw (word_found (form_text Fit) u f)

module _ (c : Content) (h : Within c) (s : List ℕ) (e : s ≡ written c) where
  abbrev points_text : List ℕ
  points_text = section_text (text "points ") 2 (bits_of c.points) c.points.count

  abbrev knots_text : List ℕ
  knots_text = section_text (text "knots ") 1 (bits_of c.knots) c.knots.count

  abbrev at_text : List ℕ
  at_text = section_text (text "at ") 1 (bits_of c.parameters) c.parameters.count

  from-form : From s 0 (form_text c.form ++ (points_text ++ (knots_text ++ at_text)))
  unfolding written
  from-form = record { rest = e; long = zero-add _ ∙ ap length (sym e) }

  sheet_read : ((sheet_of s).formed ≡ true) × (said s ≡ c)
  unfolding said
  sheet_read =
      let first = form_text c.form in
      let lines = points_text ++ (knots_text ++ at_text) in
      let points = section_at s (text "points ") 66 2 (length first) in
      let knots = section_at s (text "knots ") 70 1 points.next in
      let parameters = section_at s (text "at ") 1024 1 knots.next in
      let after = rw zero-add at (past first lines from-form) in
      let p = section_read s (text "points ") (knots_text ++ at_text) 66 2 (length first) c.points h.points after (omega arith) in
      let k = section_read s (text "knots ") at_text 70 1 points.next c.knots h.knots p.after (omega arith) in
      let a = section_read s (text "at ") [] 1024 1 knots.next c.parameters h.parameters (rw (append-nil at_text) k.after) (omega arith) in
      let ends = eq-eqb parameters.next (length s) (sym (add-zero parameters.next) ∙ a.after.long) in
      subst (λ (x : Sheet). (x.formed ≡ true) × (said_by s x ≡ c))
      (assembled s {stands = true} {formed = true} (form_is s lines c.form from-form) (sym (word_found first lines from-form)) refl refl refl refl
      (rw (p.formed, k.formed, a.formed, ends)))
      (refl, λ i. record { form = c.form; points = p.says i; knots = k.says i; parameters = a.says i })

-- ---- a text that has the form, written again

-- 16 digits are 64 bits
number_small : (s : List ℕ) (a n : ℕ) → number_at 16 s n a < 16 ^ n
unfolding number_at turns
number_small s a zero = omega (arith, pow-zero 16)
number_small s a (suc n) = rw (number_more s 16 n a, pow-suc) (digits_lt (number_small s a n) (digit_small (byte_at s (a + n))))

-- the text asks for the numbers that there are, and no others
module _ (per : ℕ) (f g : ℕ → ℕ) where
  same_ones : (k : ℕ) → ((j : ℕ) → j < k → f j ≡ g j) → first_ones per f k ≡ first_ones per g k
  unfolding first_ones
  same_ones zero h = refl
  same_ones (suc k) h = rw (zero-add k, same_ones k (λ j l. h j (omega arith)), h k (omega arith))

  same_section : (w : List ℕ) (n : ℕ) → ((j : ℕ) → j < per * n → f j ≡ g j) → section_text w per f n ≡ section_text w per g n
  unfolding section_text numbers_text first_ones
  same_section w n h = rw (sub-zero (per * n)) (ap (λ (l : List ℕ). w ++ (count_text n ++ (text "\n" ++ l))) (same_ones (per * n) h))

module _ (s : List ℕ) (per : ℕ) (r : Section) where
  abbrev listed_bits : ℕ → ℕ
  listed_bits j = get_or (listed 0 (per * r.count) (bits_at s r.start)) j 0

  listed-bits : (j : ℕ) → j < per * r.count → listed_bits j ≡ bits_at s r.start j
  listed-bits j l = nth_listed (per * r.count) j (bits_at s r.start) 0 l

  fits : (most : ℕ) → r.count ≤ most → Fits most per (lines_at s per r)
  unfolding lines_at
  fits most l =
      record {
        few = l;
        full = length-listed 0 (per * r.count) (bits_at s r.start);
        small = λ j m. rw (listed-bits j m) (number_small s (number_place r.start j) 16);
      }

  section_again : (w : List ℕ) → section_text w per (bits_of (lines_at s per r)) (lines_at s per r).count ≡ section_text w per (bits_at s r.start) r.count
  unfolding lines_at
  section_again w = same_section per listed_bits (bits_at s r.start) w r.count listed-bits

written_again : (s : List ℕ) (x : Sheet) → written (said_by s x)
    ≡ formed_text x.form (bits_at s x.points.start) x.points.count (bits_at s x.knots.start) x.knots.count (bits_at s x.parameters.start) x.parameters.count
unfolding written
written_again s x =
    rw (section_again s 2 x.points (text "points "), section_again s 1 x.knots (text "knots "), section_again s 1 x.parameters (text "at "))

-- ---- the laws

-- the text of a content within the limits has the form, and says that content
module _ (c : Content) (h : Within c) where
  pub accepted : (sheet_of (written c)).formed ≡ true
  accepted = (sheet_read c h (written c) refl).0

  pub read_back : said (written c) ≡ c
  read_back = (sheet_read c h (written c) refl).1

-- whatever a text says is within the limits, and a text that has the form is the text of what it says
module _ (s : List ℕ) where
  pub in_limits : Within (said s)
  unfolding said
  in_limits =
      let l = limits s in
      record {
        points = fits s 2 (sheet_of s).points 66 l.points.0;
        knots = fits s 1 (sheet_of s).knots 70 l.knots.0;
        parameters = fits s 1 (sheet_of s).parameters 1024 l.parameters.0;
      }

  pub written_back : (sheet_of s).formed ≡ true → written (said s) ≡ s
  unfolding said
  written_back h = written_again s (sheet_of s) ∙ sym (canonical s h)

  pub exactly : ((sheet_of s).formed ≡ true) ↔ ((c : Content) × (Within c × (written c ≡ s)))
  exactly = (λ h. (said s, (in_limits, written_back h)), λ w. ap (λ (t : List ℕ). (sheet_of t).formed) (sym w.1.1) ∙ accepted w.0 w.1.0)

-- no two contents have the same text
pub one_content : (c d : Content) → Within c → Within d → written c ≡ written d → c ≡ d
one_content c d h g e = sym (read_back c h) ∙ ap said e ∙ read_back d g

-- The doubles of a section are those of its patterns. Every NaN's pattern has a text of its own, and all are read as the same double.
pub doubles : (s : List ℕ) (per : ℕ) (r : Section) → numbers_at s r.start (per * r.count) ≡ map (of_bits binary64) (lines_at s per r).bits
unfolding numbers_at lines_at
doubles s per r = sym (map_listed (of_bits binary64) 0 (per * r.count) (bits_at s r.start))
