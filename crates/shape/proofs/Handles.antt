-- The rules for handles, from the tests that are made one after the other, and what they tell of those that they let through. Assumes nothing.
use mathlib.Core.Path.{◌≡◌, sym, ap, ◌∙◌}
use mathlib.Core.Bool.{Bool, true, false, not}
use mathlib.Core.List.{List, [], ◌∷◌, ◌++◌}
use Prim.Native.Nat.{ℕ, ◌+◌, ◌%◌, ◌≤◌, ◌<◌}
use native.Mathlib.Omega.{arith}
use borrow.Author.Tests.{eq-eqb, ne_eqb}
use lib.ListN.{length, take, drop, replicate, length-replicate}
use lib.Seq.{take_all, take_at, length-take-le, get_or-take}
use lib.Dec.{T}
use lib.Ieee.{Float, nan}
use Rattle.meaning.specs.Scalar.{plain, zero64}
use Rattle.meaning.specs.Table.{at1}
use Rattle.refusal.specs.Refusals.{Verdict, row, first_of, refusal}
use Rattle.refusal.proofs.Rows.{Passed, number_of, numbered, row-applies, row-passes, row_passed, no_rows, second_decides, first_decides, both_pass, passed_none}
use Rattle.knots.specs.declared.Form.{Form}
use Rattle.knots.specs.declared.Form.TheVariants.{Control}
use Rattle.knots.specs.Rules.{knot_rules}
use Rattle.knots.proofs.Accepted.{Accepted, accepted}
use Rattle.knots.proofs.Refused.{numbered-knots}
use Rattle.outcome.specs.Outcome.{some_wild}
use Rattle.outcome.proofs.Doors.{put_all}
use Rattle.shape.specs.Shape.{points_in, given_knots}
use Rattle.shape.specs.Rules.{handle_rules}

module _ (form : Form) (coords : List Float) (given : Bool) (ks : List Float) where
  pub numbered-handles : T (numbered (handle_rules form coords given ks))
  unfolding handle_rules knot_rules
  numbered-handles = tt

  pub odd_handles : (length coords % 2 ≡ 0 → ⊥) → refusal 1 ≡ first_of (handle_rules form coords given ks)
  unfolding handle_rules
  odd_handles h = sym (row-applies _ _ (ap not (ne_eqb (length coords % 2) 0 h)))

  module _ (even : length coords % 2 ≡ 0) {r : Verdict} (known : r ≡ first_of (knot_rules form (points_in coords) given ks)) where
    even_handles : first_of (handle_rules form coords given ks) ≡ first_of (knot_rules form (points_in coords) given ks ++ (row 11 (some_wild coords (length coords)) ∷ []))
    unfolding handle_rules
    even_handles = row-passes _ _ (ap not (eq-eqb (length coords % 2) 0 even))

    pub knots_refused : (r.number ≡ 0 → ⊥) → r ≡ first_of (handle_rules form coords given ks)
    knots_refused h = known ∙ sym (even_handles ∙ first_decides _ _ (λ z. h (number_of known ∙ z)))

    module _ (passed : r.number ≡ 0) where
      left : first_of (handle_rules form coords given ks) ≡ first_of (row 11 (some_wild coords (length coords)) ∷ [])
      left = even_handles ∙ second_decides _ _ (numbered-knots form (points_in coords) given ks) (number_of (sym known) ∙ passed)

      pub wild_handles : some_wild coords (length coords) ≡ true → refusal 11 ≡ first_of (handle_rules form coords given ks)
      wild_handles h = sym (left ∙ row-applies _ [] h)

      pub tame_handles : some_wild coords (length coords) ≡ false → r ≡ first_of (handle_rules form coords given ks)
      tame_handles h =
          known ∙ passed_none _ (numbered-knots form (points_in coords) given ks) (number_of (sym known) ∙ passed) ∙ sym (left ∙ row-passes _ [] h ∙ no_rows)

  -- what passes the rules of handles passes those of its knots, and its numbers are finite
  handles_parts : Passed (handle_rules form coords given ks) → Passed (knot_rules form (points_in coords) given ks) × Passed (row 11 (some_wild coords (length coords)) ∷ [])
  unfolding handle_rules
  handles_parts h = both_pass (knot_rules form (points_in coords) given ks) _ (numbered-knots form (points_in coords) given ks) (row_passed 0 _ _ h).1

  pub handles_passed_knots : Passed (handle_rules form coords given ks) → Passed (knot_rules form (points_in coords) given ks)
  handles_passed_knots h = (handles_parts h).0

  pub handles_tame : Passed (handle_rules form coords given ks) → some_wild coords (length coords) ≡ false
  handles_tame h = (row_passed 10 _ [] (handles_parts h).1).0

-- ---- knots in slices that the rules let through are accepted in their room, too

-- the knots of a list that is as long as it should be stand in front
pub given_front : (ks : List Float) (n : ℕ) → length ks ≡ n + 4 → n ≤ 66 → take (n + 4) (given_knots n ks) ≡ ks
given_front ks n l r =
    let zeros = replicate 70 zero64 in
    let z : length zeros ≡ 70 = length-replicate 70 zero64 in
    ap (take (n + 4)) (put_all ks (n + 4) zeros (omega arith) (omega arith))
    ∙ take_at (take (n + 4) ks) (drop (0 + (n + 4)) zeros) (n + 4) (length-take-le (n + 4) ks (omega arith))
    ∙ take_all (n + 4) ks (omega arith)

-- one by one
pub given-at : (ks : List Float) (n : ℕ) → length ks ≡ n + 4 → n ≤ 66 → (i : ℕ) → i < n + 4 → at1 plain (given_knots n ks) i ≡ at1 plain ks i
given-at ks n l r i h = sym (get_or-take (n + 4) (given_knots n ks) i nan h) ∙ ap (λ (x : List Float). at1 plain x i) (given_front ks n l r)

pub slices_accepted : (coords ks : List Float) → Passed (handle_rules Control coords true ks) → Accepted ks (points_in coords)
slices_accepted coords ks h = accepted ks (points_in coords) (handles_passed_knots Control coords true ks h)

pub slices_trusted : (coords ks : List Float) → Passed (handle_rules Control coords true ks) → Accepted (take (points_in coords + 4) (given_knots (points_in coords) ks)) (points_in coords)
slices_trusted coords ks h =
    let a = slices_accepted coords ks h in
    rw (given_front ks (points_in coords) a.sound.long a.room) a
