-- The rules of a shape, from its parts, and what they tell of its knots. Assumes nothing.
use mathlib.Core.Path.{◌≡◌, refl, sym, ap, ◌∙◌}
use mathlib.Core.Bool.{true, false, ◌||◌}
use mathlib.Core.List.{List, [], ◌∷◌}
use Prim.Native.Nat.{ℕ, ◌+◌, ◌≤◌, ◌<◌}
use native.Mathlib.Omega.{arith}
use borrow.Author.Tests.{le-leb, lt-leb, leb-true}
use lib.ListN.{length, take, length-take}
use lib.Dec.{T, leb}
use lib.Ieee.{Float}
use Rattle.meaning.proofs.Tests.{by_two}
use Rattle.refusal.specs.Refusals.{Verdict, row, first_of, refusal}
use Rattle.refusal.proofs.Rows.{Passed, number_of, numbered, row-applies, row-passes, no_rows, second_decides, first_decides, both_pass, passed_none}
use Rattle.knots.specs.declared.Form.TheVariants.{Control}
use Rattle.knots.specs.Rules.{knot_rules}
use Rattle.knots.proofs.Accepted.{Accepted, accepted}
use Rattle.knots.proofs.Refused.{numbered-knots}
use Rattle.outcome.specs.Outcome.{some_wild}
use Rattle.shape.specs.Shape.{Shape}
use Rattle.shape.specs.Rules.{counted_knots, shape_rules}

pub numbered-shape : (k : ℕ) (s : Shape Float) → T (numbered (shape_rules k s))
unfolding shape_rules knot_rules
numbered-shape k s = tt

-- ---- knots that a record counts

-- of a list that is refused for its count alone: an empty one is
module _ (n k : ℕ) (ks : List Float) where
  pub counted_all : k ≤ length ks → counted_knots k ks ≡ take k ks
  counted_all h = simp (le-leb _ _ h)

  pub counted_none : length ks < k → counted_knots k ks ≡ []
  counted_none h = simp (lt-leb _ _ h)

  -- accepted: as many as the count says, and that is four more than control points
  pub counted : Passed (knot_rules Control n true (counted_knots k ks)) → Accepted (take (n + 4) ks) n
  counted h =
      let a = accepted (counted_knots k ks) n h in
      by_two (leb k (length ks))
      (λ p.
      let e : counted_knots k ks ≡ take k ks = counted_all (leb-true k (length ks) p) in
      let l : length (take k ks) ≡ n + 4 = ap length (sym e) ∙ a.sound.long in
      let q : k ≡ n + 4 = omega (arith, length-take k ks, leb-true k (length ks) p) in
      rw (sym q) (rw e at a))
      (λ p.
      let e : counted_knots k ks ≡ [] = simp p in
      let l : 0 ≡ n + 4 = ap length (sym e) ∙ a.sound.long in
      absurd (omega arith))

-- ---- the rules of a shape, from its parts

module _ (k : ℕ) (s : Shape Float) {r : Verdict} (known : r ≡ first_of (knot_rules Control s.n true (counted_knots k s.knots))) where
  pub knots_refused : (r.number ≡ 0 → ⊥) → r ≡ first_of (shape_rules k s)
  unfolding shape_rules
  knots_refused h = known ∙ sym (first_decides _ _ (λ z. h (number_of known ∙ z)))

  module _ (passed : r.number ≡ 0) where
    left : first_of (shape_rules k s) ≡ first_of (row 11 (some_wild s.xs s.n || some_wild s.ys s.n) ∷ [])
    unfolding shape_rules
    left = second_decides _ _ (numbered-knots Control _ true _) (number_of (sym known) ∙ passed)

    pub wild_xs : some_wild s.xs s.n ≡ true → refusal 11 ≡ first_of (shape_rules k s)
    wild_xs h = sym (left ∙ row-applies _ [] (rw h))

    pub wild_ys : some_wild s.xs s.n ≡ false → some_wild s.ys s.n ≡ true → refusal 11 ≡ first_of (shape_rules k s)
    wild_ys g h = sym (left ∙ row-applies _ [] (rw (g, h)))

    pub all_tame : some_wild s.xs s.n ≡ false → some_wild s.ys s.n ≡ false → r ≡ first_of (shape_rules k s)
    all_tame g h =
        known ∙ passed_none _ (numbered-knots Control _ true _) (number_of (sym known) ∙ passed) ∙ sym (left ∙ row-passes _ [] (rw (g, h)) ∙ no_rows)

-- finite control points over knots that pass
pub tame_passes : (k : ℕ) (s : Shape Float) → Passed (knot_rules Control s.n true (counted_knots k s.knots)) → some_wild s.xs s.n ≡ false
    → some_wild s.ys s.n ≡ false → Passed (shape_rules k s)
tame_passes k s z g h = number_of (sym (all_tame k s refl z g h)) ∙ z

-- an accepted shape's knots are accepted
pub trusted : (k : ℕ) (s : Shape Float) → Passed (shape_rules k s) → Accepted (take (s.n + 4) s.knots) s.n
unfolding shape_rules
trusted k s h = counted s.n k s.knots (both_pass (knot_rules Control s.n true (counted_knots k s.knots)) _ (numbered-knots Control _ true _) h).0

-- and are all there
pub knots_reach : (us : List Float) (n : ℕ) → Accepted (take (n + 4) us) n → n + 3 < length us
knots_reach us n a = let l = a.sound.long in let m = length-take (n + 4) us in omega arith
