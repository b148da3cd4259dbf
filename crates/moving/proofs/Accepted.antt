-- What a move answers, every question accepts: the moved record passes its own rules. Assumes nothing.
use mathlib.Core.Path.{◌≡◌, refl, sym, ap, ◌∙◌, subst}
use mathlib.Core.Bool.{Bool, true, false, not}
use mathlib.Core.List.{List, []}
use Prim.Native.Nat.{ℕ, ◌<◌}
use borrow.Author.Tests.{eqb-true, eqb-false, ltb-true, ltb-false, not-false}
use lib.Dec.{ltb, eqb}
use lib.ListN.{length, set, take, get_or-eq_default}
use lib.Seq.{get_or-take, get_or-set_same, get_or-set_other}
use lib.Ieee.{Float, nan}
use lib.Ieee.Scale.{finite}
use Rattle.meaning.specs.Scalar.{plain}
use Rattle.meaning.specs.Table.{at1}
use Rattle.meaning.proofs.Tests.{by_two, no, or_left, or_right}
use Rattle.refusal.proofs.Rows.{Passed, row_passed, both_pass}
use Rattle.outcome.specs.Outcome.{either_wild}
use Rattle.shape.specs.Shape.{Shape}
use Rattle.shape.proofs.Sound.{AllFinite, other_points}
use Rattle.shape.proofs.With.{with_passed}
use Rattle.polygon.proofs.Corners.{same_length}
use Rattle.curve.specs.declared.Curve.{Curve}
use Rattle.curve.specs.Build.{Built}
use Rattle.curve.specs.Record.{length_in, shape_in, record_rules, by_record}
use Rattle.curve.proofs.Recheck.{record_sound, record_parts, measured_passes}
use Rattle.curve.proofs.Builds.{built_passed, built_curve}
use Rattle.moving.specs.Moving.{moved, move_rules, moved_by}
use Rattle.moving.proofs.Steps.{checks, numbered_checks}

-- what is finite is there
pub there : (l : List Float) (i : ℕ) → finite (at1 plain l i) ≡ true → i < length l
there l i h =
    by_two (ltb i (length l)) (λ g. ltb-true i (length l) g)
    (λ g. no (sym (ap finite (get_or-eq_default l nan (ltb-false i (length l) g))) ∙ h))

-- finite numbers, one of which another finite one replaces
still_finite : (n : ℕ) (l : List Float) (i : ℕ) (x : Float) → i < n → AllFinite n l → finite x ≡ true → AllFinite n (set l i x)
still_finite n l i x low f h j g =
    by_two (eqb j i)
    (λ e. ap (λ (k : ℕ). finite (at1 plain (set l i x) k)) (eqb-true j i e) ∙ ap finite (get_or-set_same l i x nan (there l i (f i low))) ∙ h)
    (λ e. ap finite (get_or-set_other l i j x nan (eqb-false j i e)) ∙ f j g)

-- lists that begin with the same n numbers
front_at : (n : ℕ) (a b : List Float) → take n a ≡ take n b → (j : ℕ) → j < n → at1 plain a j ≡ at1 plain b j
front_at n a b e j h = sym (get_or-take n a j nan h) ∙ ap (λ (l : List Float). at1 plain l j) e ∙ get_or-take n b j nan h

module _ (c : Curve) (i : ℕ) (x y : Float) (short : Bool) (passed : Passed (move_rules c i x y short)) where
  abbrev n : ℕ
  n = c.points

  abbrev m : Curve
  m = moved c i x y

  -- what the rules say one by one
  pub parts : Passed (by_record c).rules × (either_wild x y ≡ false) × (i < c.points) × (short ≡ false) × (finite m.length ≡ true)
  unfolding move_rules
  parts =
      let all = both_pass (checks c x y) _ (numbered_checks c x y) passed in
      let curve = with_passed (either_wild x y) (by_record c).rules (record_sound c).counted all.0 in
      let index = row_passed 16 _ _ all.1 in
      let r14 = row_passed 13 _ _ index.1 in
      (curve.1, curve.0, ltb-true _ _ (not-false _ index.0), r14.0, not-false _ (row_passed 14 _ [] r14.1).0)

  pub xs_finite : AllFinite c.points (moved c i x y).xs
  xs_finite = still_finite n c.xs i x parts.2 ((record_sound c).xs parts.0) (not-false _ (or_left _ _ parts.1))

  pub ys_finite : AllFinite c.points (moved c i x y).ys
  ys_finite = still_finite n c.ys i y parts.2 ((record_sound c).ys parts.0) (not-false _ (or_right (not (finite x)) _ parts.1))

  -- a record with the moved control points, whatever it has behind them, and with the length
  pub moved_passes : (xs ys : List Float) → take c.points xs ≡ take c.points (moved c i x y).xs → take c.points ys ≡ take c.points (moved c i x y).ys
      → Passed (record_rules c.knot_count (record { n = c.points; xs = xs; ys = ys; knots = c.knots }) (moved c i x y).length)
  moved_passes xs ys ex ey =
      let k = c.knot_count in
      let s : Shape Float = record { n = n; xs = xs; ys = ys; knots = c.knots } in
      let at_x = front_at n xs m.xs ex in
      let at_y = front_at n ys m.ys ey in
      let same : length_in s ≡ m.length = same_length _ _ n (λ j h. let a = at_x j h in let b = at_y j h in λ t. record { x = a t; y = b t }) in
      let shape =
      other_points n k c.xs c.ys xs ys c.knots (record_parts k (shape_in c) c.length parts.0).0
      (λ j h. ap finite (at_x j h) ∙ xs_finite j h) (λ j h. ap finite (at_y j h) ∙ ys_finite j h) in
      subst (λ (l : Float). Passed (record_rules k s l)) same (measured_passes k s shape (ap finite same ∙ parts.4))

-- so any answer that the contract of `move_point` allows, where it is no refusal, passes the rules by which every question checks a record again
pub move_accepted : (c : Curve) (i : ℕ) (x y : Float) (short : Bool) {b : Built} → b ≡ moved_by c i x y short → b.refusal.number ≡ 0 → Passed (by_record b.curve).rules
move_accepted c i x y short e z =
    let m = moved c i x y in
    subst (λ (d : Curve). Passed (by_record d).rules) (sym (built_curve _ _ e z))
    (moved_passes c i x y short (built_passed _ _ e z) m.xs m.ys refl refl)
