-- What stands of a sheet in a text, from its parts. Assumes nothing.
use mathlib.Core.Path.{◌≡◌, refl, sym, ap, ◌∙◌}
use mathlib.Core.Bool.{Bool, true, false, ◌&&◌}
use mathlib.Core.List.{List}
use Prim.Native.Nat.{ℕ, ◌≤◌, zero-le}
use native.Mathlib.Omega.{arith}
use lib.Dec.{eqb}
use lib.ListN.{length}
use Rattle.std.proofs.Common.{Option, None, Some}
use Rattle.std.specs.Bool.{then_some}
use Rattle.knots.specs.declared.Form.{Form}
use Rattle.knots.specs.declared.Form.TheVariants.{Control, Fit}
use Rattle.sheet_read.specs.Text.{text}
use Rattle.sheet_read.specs.Grammar.{Section as SectionText, section_at, form_text, form_stands, form_of, Sheet, sheet_of}
use Rattle.sheet_read.specs.Read.{section_view, said, says, parts_view}
use Rattle.sheet_read.specs.declared.Section.{Section}
use Rattle.sheet_read.specs.declared.Parts.{Parts}
use Rattle.sheet_read.proofs.Reading.{points_end, knots_end}

module _ (s : List ℕ) where
  none_said : form_stands s (form_of s) ≡ false → Control ≡ form_of s
  none_said h = by (form_stands s Fit) refl
    where
      by : (b : Bool) → form_stands s Fit ≡ b → Control ≡ form_of s
      by true t =
          let f : form_of s ≡ Fit = rw t refl in
          let g : true ≡ false = sym t ∙ ap (form_stands s) (sym f) ∙ h in cc
      by false e = rw e refl

  -- what the first line says is the form of the text
  module _ {f : Option Form} (e : f ≡ then_some (form_stands s (form_of s)) (form_of s)) where
    pub said_is : said f ≡ form_of s
    said_is = ap said e ∙ by (form_stands s (form_of s)) refl
      where
        by : (b : Bool) → form_stands s (form_of s) ≡ b → said (then_some b (form_of s)) ≡ form_of s
        by true h = refl
        by false h = none_said h

    says_is : says f ≡ form_stands s (form_of s)
    says_is = ap says e ∙ by (form_stands s (form_of s))
      where
        by : (b : Bool) → says (then_some b (form_of s)) ≡ b
        by true = refl
        by false = refl

    pub parts_are : (p k q : Option Section) → section_view p ≡ section_at s (text "points ") 66 2 (length (form_text (said f)))
        → section_view k ≡ section_at s (text "knots ") 70 1 (section_view p).next
        → section_view q ≡ section_at s (text "at ") 1024 1 (section_view k).next
        → parts_view s (record { form = f; points = p; knots = k; parameters = q }) ≡ sheet_of s
    unfolding sheet_of
    parts_are p k q hp hk hq =
        let p' = hp ∙ ap (λ (x : Form). section_at s (text "points ") 66 2 (length (form_text x))) said_is in
        let k' = hk ∙ ap (λ (x : SectionText). section_at s (text "knots ") 70 1 x.next) p' in
        let q' = hq ∙ ap (λ (x : SectionText). section_at s (text "at ") 1024 1 x.next) k' in
        λ i. record {
          formed = says_is i && ((p' i).formed && ((k' i).formed && ((q' i).formed && eqb (q' i).next (length s))));
          form = said_is i;
          points = p' i;
          knots = k' i;
          parameters = q' i;
        }

-- a section that is looked for stands where a text that is read has room for it
pub points_reach : (s : List ℕ) (f : Form) (p : Option Section) → section_view p ≡ section_at s (text "points ") 66 2 (length (form_text f))
    → (section_view p).next ≤ 4000
points_reach s f None h = zero-le
points_reach s f (Some x) h = omega (arith, points_end s f h)

pub knots_reach : (s : List ℕ) (f : Form) (p k : Option Section) → section_view p ≡ section_at s (text "points ") 66 2 (length (form_text f))
    → section_view k ≡ section_at s (text "knots ") 70 1 (section_view p).next → (section_view k).next ≤ 4000
knots_reach s f p None h g = zero-le
knots_reach s f None (Some y) h g = omega (arith, knots_end s 0 zero-le g)
knots_reach s f (Some x) (Some y) h g = omega (arith, knots_end s x.next (points_end s f h) g)
