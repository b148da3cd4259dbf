-- What is read of a section or a sheet, where a test fails and where all hold. Assumes nothing.
use mathlib.Core.Path.{◌≡◌, refl, sym, ap, ◌∙◌}
use mathlib.Core.Bool.{Bool, true, false}
use mathlib.Core.List.{List}
use Prim.Native.Nat.{ℕ, ◌+◌, ◌*◌, ◌≤◌}
use native.Mathlib.Omega.{arith}
use lib.Dec.{eqb}
use lib.ListN.{length}
use Rattle.std.proofs.Common.{None, Some}
use Rattle.std.specs.Bool.{then_some}
use Rattle.std.specs.Option.{MatchOption}
use Rattle.knots.specs.declared.Form.{Form}
use Rattle.sheet_read.specs.Text.{text, word_stands}
use Rattle.sheet_read.specs.Number.{digits_at, count_at, count_stands}
use Rattle.sheet_read.specs.Grammar.{number_place, numbers_stand, Section as SectionText, no_section, section_at}
use Rattle.sheet_read.specs.Grammar.{form_text, form_stands, form_of, Sheet, sheet_of}
use Rattle.sheet_read.specs.Read.{section_of, sheet_view}
use Rattle.sheet_read.specs.declared.Section.{Section}
use Rattle.sheet_read.specs.declared.Sheet.{Sheet as SheetRead}
use Rattle.sheet_read.proofs.Numerals.{few_digits}
use Rattle.sheet_read.proofs.Sections.{no_word, no_count, no_numbers, whole, few-numbers, reach, first_line, assembled}

-- a test, and what is read where it holds
module _ {A : Type 0} where
  missed : (b : Bool) (x : A) → None ≡ then_some b x → b ≡ false
  missed true x h = cc
  missed false x h = refl

  given : (b : Bool) (x : A) {y : A} → Some y ≡ then_some b x → (b ≡ true) × (x ≡ y)
  given true x h = (refl, cc)
  given false x h = cc

-- ---- a section

-- a count, and where the next line begins
abbrev counted_at : List ℕ → ℕ → ℕ × ℕ
counted_at s k = (count_at s k, k + digits_at s k + 1)

abbrev pair : ℕ → ℕ → ℕ × ℕ
pair n start = (n, start)

module _ (s w : List ℕ) (most per at : ℕ) where
  pub word_missed : None ≡ then_some (word_stands s w at) (at + length w) → no_section ≡ section_at s w most per at
  word_missed h = no_word s w most per at (missed (word_stands s w at) (at + length w) h)

  module _ {c : ℕ} (h : Some c ≡ then_some (word_stands s w at) (at + length w)) where
    word : word_stands s w at ≡ true
    word = (given (word_stands s w at) (at + length w) h).0

    place : c ≡ at + length w
    place = sym (given (word_stands s w at) (at + length w) h).1

    pub count_missed : None ≡ then_some (count_stands s most c) (counted_at s c) → no_section ≡ section_at s w most per at
    count_missed g =
        no_count s w most per at word (ap (λ (k : ℕ). count_stands s most k) (sym place) ∙ missed (count_stands s most c) (counted_at s c) g)

    module _ {n start : ℕ} (g : Some (pair n start) ≡ then_some (count_stands s most c) (counted_at s c)) where
      both : (count_stands s most c ≡ true) × (counted_at s c ≡ pair n start)
      both = given (count_stands s most c) (counted_at s c) g

      counts : count_stands s most (at + length w) ≡ true
      counts = ap (λ (k : ℕ). count_stands s most k) (sym place) ∙ both.0

      lines_are : n ≡ count_at s (at + length w)
      lines_are = ap (λ (p : ℕ × ℕ). p.0) (sym both.1) ∙ ap (λ (k : ℕ). count_at s k) place

      start_is : start ≡ at + length w + digits_at s (at + length w) + 1
      start_is = ap (λ (p : ℕ × ℕ). p.1) (sym both.1) ∙ ap (λ (k : ℕ). k + digits_at s k + 1) place

      pub few : per * n ≤ per * most
      few = few-numbers s w most per at word counts refl lines_are

      pub near : start ≤ at + length w + 5
      near = omega (arith, start_is, few_digits s (at + length w))

      pub numbers_missed : None ≡ then_some (numbers_stand s per (per * n) start) (number_place start (per * n)) → no_section ≡ section_at s w most per at
      numbers_missed k =
          no_numbers s w most per at word counts refl lines_are
          (ap (λ (i : ℕ). numbers_stand s per (per * n) i) (sym start_is) ∙ missed (numbers_stand s per (per * n) start) (number_place start (per * n)) k)

      pub section_read : {next : ℕ} → Some next ≡ then_some (numbers_stand s per (per * n) start) (number_place start (per * n))
          → section_of (record { count = n; start = start; next = next }) ≡ section_at s w most per at
      section_read k =
          let e = given (numbers_stand s per (per * n) start) (number_place start (per * n)) k in
          (λ i. record { formed = true; count = n; start = start_is i; next = (sym e.1 ∙ ap (λ (j : ℕ). number_place j (per * n)) start_is) i })
          ∙ whole s w most per at word counts refl lines_are (ap (λ (i : ℕ). numbers_stand s per (per * n) i) (sym start_is) ∙ e.0)

-- ---- a sheet

module _ (s : List ℕ) where
  -- no sheet, where the first line says no form
  pub no_form : None ≡ then_some (form_stands s (form_of s)) (form_of s) → (sheet_of s).formed ≡ false
  no_form g =
      let h = missed (form_stands s (form_of s)) (form_of s) g in
      sym (ap (λ (x : Sheet). x.formed) (assembled s {stands = false} {formed = false} refl (sym h) refl refl refl refl refl))

  module _ {form : Form} (g : Some form ≡ then_some (form_stands s (form_of s)) (form_of s)) where
    e : form ≡ form_of s
    e = sym (given (form_stands s (form_of s)) (form_of s) g).1

    h : form_stands s form ≡ true
    h = ap (λ (w : Form). form_stands s w) e ∙ (given (form_stands s (form_of s)) (form_of s) g).0

    -- or a section is missing
    pub no_points : no_section ≡ section_at s (text "points ") 66 2 (length (form_text form)) → (sheet_of s).formed ≡ false
    no_points p = sym (ap (λ (x : Sheet). x.formed) (assembled s {stands = true} {formed = false} e (sym h) refl p refl refl refl))

    module _ {points : Section} (p : section_of points ≡ section_at s (text "points ") 66 2 (length (form_text form))) where
      pub no_knots : no_section ≡ section_at s (text "knots ") 70 1 points.next → (sheet_of s).formed ≡ false
      no_knots k = sym (ap (λ (x : Sheet). x.formed) (assembled s {stands = true} {formed = false} e (sym h) refl p k refl refl))

      module _ {knots : Section} (k : section_of knots ≡ section_at s (text "knots ") 70 1 points.next) where
        pub no_parameters : no_section ≡ section_at s (text "at ") 1024 1 knots.next → (sheet_of s).formed ≡ false
        no_parameters a = sym (ap (λ (x : Sheet). x.formed) (assembled s {stands = true} {formed = false} e (sym h) refl p k a refl))

        -- and a sheet where all stand, if it ends with the text
        pub all_read : {parameters : Section} → section_of parameters ≡ section_at s (text "at ") 1024 1 knots.next
            → let x : SheetRead = record { form = form; points = points; knots = knots; parameters = parameters } in
            MatchOption (then_some (eqb parameters.next (length s)) x) ((sheet_of s).formed ≡ false) (λ y. sheet_view y ≡ sheet_of s)
        all_read {parameters} a =
            ended (eqb parameters.next (length s)) (assembled s {stands = true} {formed = eqb parameters.next (length s)} e (sym h) refl p k a refl)
          where
            ended : (b : Bool)
                → record { formed = b; form = form; points = section_of points; knots = section_of knots; parameters = section_of parameters } ≡ sheet_of s
                → let x : SheetRead = record { form = form; points = points; knots = knots; parameters = parameters } in
                MatchOption (then_some b x) ((sheet_of s).formed ≡ false) (λ y. sheet_view y ≡ sheet_of s)
            ended true q = q
            ended false q = sym (ap (λ (x : Sheet). x.formed) q)

  -- where a section ends
  pub points_end : (form : Form) {points : Section} → section_of points ≡ section_at s (text "points ") 66 2 (length (form_text form)) → points.next ≤ 2264
  points_end form p =
      let e = ap (λ (x : SectionText). x.next) p in
      omega (arith, e, first_line form, reach s (text "points ") 66 2 (length (form_text form)))

  pub knots_end : (at : ℕ) {knots : Section} → at ≤ 2264 → section_of knots ≡ section_at s (text "knots ") 70 1 at → knots.next ≤ 3465
  knots_end at h k =
      let e = ap (λ (x : SectionText). x.next) k in
      omega (arith, e, h, reach s (text "knots ") 70 1 at)
