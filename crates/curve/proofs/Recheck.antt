-- The rules of a record, from its parts, and what they tell of one that they let through. Assumes nothing.
use mathlib.Core.Path.{◌≡◌, refl, sym, ap, ◌∙◌}
use mathlib.Core.Bool.{Bool, true, false, not}
use mathlib.Core.List.{[], ◌∷◌, ◌++◌}
use Prim.Native.Nat.{ℕ}
use borrow.Author.Tests.{eq-eqb, eqb-true, not-false}
use lib.Dec.{T}
use lib.Ieee.{Float, binary64, fits, of_bits}
use lib.Ieee.Bits.{of_bits-to_bits}
use lib.Ieee.Scale.{finite}
use Rattle.meaning.proofs.Tests.{and_left, and_right}
use Rattle.refusal.specs.Refusals.{Verdict, row, first_of, refusal}
use Rattle.refusal.proofs.Rows.{Passed, number_of, numbered, row-applies, row-passes, row_passed, no_rows, second_decides, first_decides, both_pass, passed_none}
use Rattle.knots.specs.Rules.{knot_rules}
use Rattle.shape.specs.Shape.{Shape}
use Rattle.shape.specs.Rules.{shape_rules}
use Rattle.shape.specs.Offered.{with11}
use Rattle.shape.proofs.Trusted.{numbered-shape}
use Rattle.shape.proofs.Sound.{Sound, rooms_sound}
use Rattle.polygon.proofs.Corners.{length-double}
use Rattle.curve.specs.declared.Curve.{Curve}
use Rattle.curve.specs.Record.{length_in, is_sum, shape_in, record_rules, by_record}

-- ---- a stored length

-- a finite sum is what it is
pub sum_itself : (x : Float) → finite x ≡ true → is_sum x x ≡ true
sum_itself x h = rw (h, eq-eqb _ _ refl)

-- doubles with the same bits are the same
pub sum_is : (x y : Float) → T (fits binary64 x) → T (fits binary64 y) → is_sum x y ≡ true → x ≡ y
sum_is x y f g h =
    sym (of_bits-to_bits binary64 x f) ∙ ap (of_bits binary64) (eqb-true _ _ (and_right (finite x) _ h)) ∙ of_bits-to_bits binary64 y g

-- ---- the rules, from their parts

module _ (k : ℕ) (s : Shape Float) (length : Float) where
  pub numbered_record : T (numbered (record_rules k s length))
  unfolding record_rules shape_rules knot_rules
  numbered_record = tt

  module _ (wild : Bool) {r : Verdict} (known : r ≡ first_of (shape_rules k s)) where
    -- where 11 for a point stands
    between : with11 wild (record_rules k s length) ≡ shape_rules k s ++ (row 11 wild ∷ row 17 (not (is_sum length (length_in s))) ∷ [])
    unfolding record_rules shape_rules knot_rules
    between = refl

    pub shape_refused : (r.number ≡ 0 → ⊥) → r ≡ first_of (with11 wild (record_rules k s length))
    shape_refused h = known ∙ sym (ap first_of between ∙ first_decides (shape_rules k s) _ (λ z. h (number_of known ∙ z)))

    module _ (passed : r.number ≡ 0) where
      left : first_of (with11 wild (record_rules k s length)) ≡ first_of (row 11 wild ∷ row 17 (not (is_sum length (length_in s))) ∷ [])
      left = ap first_of between ∙ second_decides (shape_rules k s) _ (numbered-shape k s) (number_of (sym known) ∙ passed)

      pub point_refused : wild ≡ true → refusal 11 ≡ first_of (with11 wild (record_rules k s length))
      point_refused h = sym (left ∙ row-applies _ _ h)

      module _ (tame : wild ≡ false) where
        pub length_refused : is_sum length (length_in s) ≡ false → refusal 17 ≡ first_of (with11 wild (record_rules k s length))
        length_refused h = sym (left ∙ row-passes _ _ tame ∙ row-applies _ [] (ap not h))

        pub length-kept : is_sum length (length_in s) ≡ true → r ≡ first_of (with11 wild (record_rules k s length))
        length-kept h =
            known ∙ passed_none (shape_rules k s) (numbered-shape k s) (number_of (sym known) ∙ passed)
            ∙ sym (left ∙ row-passes _ _ tame ∙ row-passes _ [] (ap not h) ∙ no_rows)

  -- what passes them
  pub record_parts : Passed (record_rules k s length) → Passed (shape_rules k s) × (is_sum length (length_in s) ≡ true)
  unfolding record_rules
  record_parts h =
      let parts = both_pass (shape_rules k s) _ (numbered-shape k s) h in
      (parts.0, not-false _ (row_passed 16 _ [] parts.1).0)

-- a shape that its rules let through is let through with its own length, where that is finite
pub measured_passes : (k : ℕ) (s : Shape Float) → Passed (shape_rules k s) → finite (length_in s) ≡ true → Passed (record_rules k s (length_in s))
unfolding record_rules
measured_passes k s z h =
    number_of (second_decides (shape_rules k s) _ (numbered-shape k s) z ∙ row-passes _ [] (ap not (sum_itself (length_in s) h)) ∙ no_rows)

-- ---- a record

pub record_sound : (c : Curve) → Sound (by_record c)
record_sound c =
    let k = c.knot_count in
    let s = rooms_sound c.points k c.xs c.ys c.knots in
    let shape : Passed (by_record c).rules → Passed (shape_rules k (shape_in c)) = λ h. (record_parts k (shape_in c) c.length h).0 in
    record {
      counted = numbered_record k (shape_in c) c.length;
      knots = λ h. s.knots (shape h);
      xs = λ h. s.xs (shape h);
      ys = λ h. s.ys (shape h);
    }

-- what a record that passes has stored is the sum, bit for bit
pub length_is : (c : Curve) → T (fits binary64 c.length) → Passed (by_record c).rules → c.length ≡ length_in (shape_in c)
length_is c f h = sum_is c.length (length_in (shape_in c)) f (length-double _ c.points) (record_parts _ (shape_in c) c.length h).1

pub length_finite : (c : Curve) → Passed (by_record c).rules → finite c.length ≡ true
length_finite c h = and_left (finite c.length) _ (record_parts _ (shape_in c) c.length h).1
