-- What its rules tell of a curve that they let through, in rooms or in slices: its knots are accepted, and its coordinates are finite. Assumes nothing.
use mathlib.Core.Path.{◌≡◌, ap, ◌∙◌}
use mathlib.Core.Bool.{true, false, ◌||◌}
use mathlib.Core.List.{List, []}
use Prim.Native.Nat.{ℕ, ◌+◌, ◌*◌, ◌≤◌, ◌<◌}
use native.Mathlib.Omega.{arith}
use borrow.Author.Tests.{lt-ltb}
use lib.ListN.{length, take}
use lib.Dec.{T}
use lib.Ieee.{Float, nan}
use lib.Ieee.Scale.{finite}
use Rattle.meaning.specs.Scalar.{plain}
use Rattle.meaning.specs.Table.{at1}
use Rattle.meaning.proofs.Filling.{nth_listed}
use Rattle.meaning.proofs.Tests.{or_left, or_right}
use Rattle.refusal.proofs.Rows.{Passed, numbered, row_passed, both_pass}
use Rattle.knots.specs.declared.Form.TheVariants.{Control}
use Rattle.knots.specs.Rules.{knot_rules}
use Rattle.knots.proofs.Accepted.{Accepted, accepted}
use Rattle.knots.proofs.Refused.{numbered-knots}
use Rattle.outcome.specs.Outcome.{some_wild}
use Rattle.outcome.proofs.Wild.{each_finite, none_wild}
use Rattle.shape.specs.Shape.{Shape, points_in, every_other}
use Rattle.shape.specs.Rules.{counted_knots, shape_rules, handle_rules}
use Rattle.shape.specs.Offered.{Offered, in_rooms, in_slices}
use Rattle.shape.proofs.Trusted.{numbered-shape, tame_passes, trusted}
use Rattle.shape.proofs.Handles.{numbered-handles, handles_passed_knots, handles_tame, slices_trusted}

abbrev pub AllFinite : ℕ → List Float → Type 0
AllFinite n cs = (j : ℕ) → j < n → finite (at1 plain cs j) ≡ true

pub record Sound (who : Offered) : Type 0 where
  pub counted : T (numbered who.rules)
  pub knots : Passed who.rules → Accepted (take (who.shape.n + 4) who.shape.knots) who.shape.n
  pub xs : Passed who.rules → AllFinite who.shape.n who.shape.xs
  pub ys : Passed who.rules → AllFinite who.shape.n who.shape.ys

-- ---- in rooms

tame : (k : ℕ) (s : Shape Float) → Passed (shape_rules k s) → (some_wild s.xs s.n || some_wild s.ys s.n) ≡ false
unfolding shape_rules
tame k s h = (row_passed 10 _ [] (both_pass (knot_rules Control s.n true (counted_knots k s.knots)) _ (numbered-knots Control s.n true _) h).1).0

pub rooms_sound : (n k : ℕ) (xs ys us : List Float) → Sound (in_rooms n k xs ys us)
rooms_sound n k xs ys us =
    let s = (in_rooms n k xs ys us).shape in
    record {
      counted = numbered-shape k s;
      knots = trusted k s;
      xs = λ h. each_finite xs n (or_left _ _ (tame k s h));
      ys = λ h. each_finite ys n (or_right (some_wild xs n) _ (tame k s h));
    }

-- other control points over the same knots, all of them finite
pub other_points : (n k : ℕ) (xs ys xs' ys' us : List Float) → Passed (in_rooms n k xs ys us).rules → AllFinite n xs' → AllFinite n ys'
    → Passed (in_rooms n k xs' ys' us).rules
unfolding shape_rules
other_points n k xs ys xs' ys' us h f g =
    let z = (both_pass (knot_rules Control n true (counted_knots k us)) _ (numbered-knots Control n true _) h).0 in
    tame_passes k (in_rooms n k xs' ys' us).shape z (none_wild xs' n f) (none_wild ys' n g)

-- ---- in slices

pub other_at : (coords : List Float) (n off i : ℕ) → n ≤ 66 → i < n → at1 plain (every_other coords n off) i ≡ at1 plain coords (2 * i + off)
unfolding every_other
other_at coords n off i r h = nth_listed 66 i _ nan (omega arith) ∙ rw (lt-ltb i n h)

pub others_finite : (coords : List Float) (off : ℕ) → points_in coords ≤ 66 → off ≤ 1 → some_wild coords (length coords) ≡ false
    → AllFinite (points_in coords) (every_other coords (points_in coords) off)
others_finite coords off r o t j h = ap finite (other_at coords (points_in coords) off j r h) ∙ each_finite coords (length coords) t (2 * j + off) (omega arith)

pub slices_sound : (coords ks : List Float) → Sound (in_slices coords ks)
slices_sound coords ks =
    let fine : (off : ℕ) → off ≤ 1 → Passed (handle_rules Control coords true ks) → AllFinite (points_in coords) (every_other coords (points_in coords) off) =
    λ off o h.
    others_finite coords off (accepted ks (points_in coords) (handles_passed_knots Control coords true ks h)).room o (handles_tame Control coords true ks h) in
    record {
      counted = numbered-handles Control coords true ks;
      knots = slices_trusted coords ks;
      xs = fine 0 (omega arith);
      ys = fine 1 (omega arith);
    }
