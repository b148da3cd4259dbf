-- The rules let the knots of a fit through whose parameters rise. Assumes nothing.
use mathlib.Core.Path.{◌≡◌, refl, ap, ◌∙◌}
use mathlib.Core.Bool.{true, false}
use mathlib.Core.List.{List}
use Prim.Native.Nat.{ℕ, suc, ◌+◌, ◌-◌, ◌≤◌, ◌<◌}
use native.Mathlib.Omega.{arith}
use lib.ListN.{length, take}
use lib.Seq.{get_or-take, length-take-le}
use lib.Ieee.{Float, nan, eq, of_bits}
use lib.Ieee.Scale.{finite}
use Rattle.meaning.specs.Scalar.{plain, zero64, one64}
use Rattle.refusal.proofs.Rows.{Passed}
use Rattle.knots.specs.declared.Form.TheVariants.{Control}
use Rattle.knots.specs.Rules.{knot, knot_rules}
use Rattle.knots.proofs.Passing.{rising_passes}
use Rattle.meaning.proofs.Filling.{length-listed}
use Rattle.outcome.specs.Outcome.{some_wild}
use Rattle.fit.specs.Parameters.{step_at, knot_at, knots_by, fit_parameter, fit_knots}
use Rattle.fit.proofs.Rising.{Rising, step_plus, knot_front, knot_back, knot_parameter, knots-fine, fit_knots_sorted}

pub fit_knots-length : (q : List Float) (n : ℕ) → length (fit_knots plain q n) ≡ 70
unfolding knots_by
fit_knots-length q n = length-listed 0 70 (knot_at plain (fit_parameter plain q n) n)

module _ (q : List Float) (n : ℕ) (two : 2 ≤ n) (room : n ≤ 64)
    (tame : some_wild (fit_knots plain q n) 70 ≡ false) (rising : Rising (fit_parameter plain q n) n) where
  abbrev us : List Float
  us = fit_knots plain q n

  abbrev ks : List Float
  ks = take (n + 2 + 4) us

  same : (i : ℕ) → i < n + 2 + 4 → knot ks i ≡ knot us i
  same i l = get_or-take (n + 2 + 4) us i nan l

  front_is : (i : ℕ) → i < 4 → knot ks i ≡ zero64
  front_is i l = same i (omega arith) ∙ knot_front (step_at plain q) (step_plus q) n two room i l

  back_is : (i : ℕ) → n + 2 ≤ i → i < n + 2 + 4 → knot ks i ≡ one64
  back_is i g l = same i l ∙ knot_back (step_at plain q) (step_plus q) n two room i g (omega arith)

  inner_is : (i : ℕ) → 3 ≤ i → i < n + 3 → knot ks i ≡ fit_parameter plain q n (i - 3)
  inner_is i g l =
      let e : i ≡ i - 3 + 3 = omega arith in
      same i (omega arith) ∙ ap (knot us) e ∙ knot_parameter (step_at plain q) (step_plus q) n two room (i - 3) (omega arith)

  pub fit_knots_pass : Passed (knot_rules Control (n + 2) true (take (n + 2 + 4) us))
  fit_knots_pass =
      rising_passes ks (n + 2) (omega arith) (omega arith) (length-take-le (n + 2 + 4) us (omega (arith, fit_knots-length q n)))
      (λ i l. ap finite (same i l) ∙ knots-fine (step_at plain q) (step_plus q) n two room tame i (omega arith))
      (λ i l. rw (same i (omega arith), same (i + 1) (omega arith)) (fit_knots_sorted q n two room tame i l))
      (λ i l. rw (front_is i l, front_is 0 (omega arith)) zeros)
      (λ i g l. rw (back_is i g l, back_is (n + 2 + 3) (omega arith) (omega arith)) ones)
      (λ i g l.
      let e : i + 1 - 3 ≡ suc (i - 3) = omega arith in
      rw (inner_is i g (omega arith), inner_is (i + 1) (omega arith) (omega arith), e) (rising (i - 3) (omega arith)))
    where
      zeros : eq zero64 zero64 ≡ true
      zeros = unfold eq of_bits in refl

      ones : eq one64 one64 ≡ true
      ones = unfold eq of_bits in refl
