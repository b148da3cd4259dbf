-- The fit, from the tests that the build makes one after the other. Assumes nothing.
use mathlib.Core.Path.{◌≡◌, ap, ◌∙◌}
use mathlib.Core.Bool.{Bool, ◌&&◌}
use mathlib.Core.List.{List}
use Prim.Native.Nat.{ℕ, ◌+◌, ◌≤◌}
use native.Mathlib.Nat.{mul-le-mul_right}
use native.Mathlib.Omega.{arith}
use borrow.Author.Tests.{ltb-false}
use lib.Ieee.{Float}
use lib.Ieee.Scale.{finite}
use Rattle.refusal.specs.Refusals.{Verdict, first_of}
use Rattle.refusal.proofs.Rows.{Passed, number_of, row_passed}
use Rattle.knots.specs.declared.Form.TheVariants.{Fit}
use Rattle.knots.specs.Rules.{knot_rules}
use Rattle.outcome.proofs.Doors.{passes_true, passes_false}
use Rattle.shape.specs.Shape.{points_in}
use Rattle.shape.specs.Rules.{handle_rules}
use Rattle.shape.proofs.Handles.{handles_passed_knots}
use Rattle.curve.specs.Build.{Built, room_rules}
use Rattle.curve.proofs.Builds.{unbuilt, built_refused, room_refused, build_left}
use Rattle.fit.specs.Fit.{controls_for, curve_through, fit_fine, work_after, Making, making}
use Rattle.fit.specs.Fitting.{work_for, fitting}
use Rattle.fit.specs.Stored.{interpolated}

-- the doubles of work that so many points need
pub work-small : (q : List Float) → points_in q ≤ 64 → work_for q ≤ 4488
work-small q h = let k = mul-le-mul_right (controls_for q + 2) (within (points_in q) h) in omega (arith, k)
  where
    within : (n : ℕ) → n ≤ 64 → n + 2 ≤ 66
    within n h = omega arith

-- handles that the rules let through are 2 to 64 points
pub fit_room : (q : List Float) (given : Bool) (ks : List Float) → Passed (handle_rules Fit q given ks) → (2 ≤ points_in q) × (points_in q ≤ 64)
unfolding knot_rules
fit_room q given ks h =
    let r2 = row_passed 1 _ _ (handles_passed_knots Fit q given ks h) in
    let r3 = row_passed 2 _ _ r2.1 in
    (ltb-false (points_in q) 2 r2.0, ltb-false 64 (points_in q) (row_passed 3 _ _ r3.1).0)

module _ (q : List Float) (given : Bool) (ks : List Float) (short : Bool) (work : List Float) where
  -- one of 1 to 14 applies
  pub fit_refused : {b : Built} {r : Verdict} → b ≡ unbuilt r → r ≡ first_of (room_rules Fit q given ks short) → (r.number ≡ 0 → ⊥)
      → making b work ≡ fitting q given ks short work
  unfolding work_after
  fit_refused a e h =
      rw (passes_false _ (λ z. h (number_of e ∙ z)))
      (ap (λ (x : Built). making x work) (a ∙ built_refused _ _ (room_refused Fit q given ks short _ e h) h))

  -- none does
  pub fit_left : {b : Built} {work' : List Float} → Passed (room_rules Fit q given ks short) → making b work' ≡ interpolated q work
      → making b work' ≡ fitting q given ks short work
  unfolding work_after
  fit_left z e =
      rw (passes_true (room_rules Fit q given ks short) z)
      (λ i. making (build_left Fit q given ks short (fit_fine q && finite (curve_through q).length) (curve_through q) z (ap (λ (x : Making). x.built) e) i) (e i).work)
