-- A curve through points passes the rules of its own record: what the build lets through, every door that checks it again does, too.
-- Assumes nothing.
use mathlib.Core.Path.{◌≡◌, sym, ap, ◌∙◌}
use mathlib.Core.Bool.{Bool, true, false}
use mathlib.Core.List.{List}
use mathlib.Core.Logic.{inl, inr}
use Prim.Native.Nat.{ℕ, ◌+◌, ◌≤◌, ◌<◌}
use native.Mathlib.Omega.{arith}
use borrow.Author.Tests.{not-false}
use lib.Ieee.{Float}
use lib.Ieee.Scale.{finite}
use Rattle.meaning.specs.Scalar.{plain}
use Rattle.meaning.specs.Table.{at1}
use Rattle.meaning.proofs.Tests.{no, and_left, and_right}
use Rattle.refusal.specs.Refusals.{first_of}
use Rattle.refusal.proofs.Rows.{Passed, number_of}
use Rattle.knots.specs.declared.Form.TheVariants.{Control, Fit}
use Rattle.knots.specs.Rules.{knot_rules}
use Rattle.span.specs.Span.{span_of}
use Rattle.solve.specs.Stored.{solved_ok}
use Rattle.solve.proofs.Outcomes.{x-at, y-at}
use Rattle.solve_laws.proofs.Fine.{solved-fine}
use Rattle.outcome.specs.Outcome.{some_wild}
use Rattle.outcome.proofs.Wild.{none_wild}
use Rattle.shape.specs.Shape.{points_in}
use Rattle.shape.proofs.Trusted.{counted_all, tame_passes}
use Rattle.curve.specs.Record.{shape_in, by_record}
use Rattle.curve.proofs.Recheck.{measured_passes}
use Rattle.curve.proofs.Builds.{build_parts}
use Rattle.fit.specs.Parameters.{fit_parameter}
use Rattle.fit.specs.Fit.{knots_through, rows_through, solution_through, curve_through, fit_fine}
use Rattle.fit.specs.Fitting.{fit_rules}
use Rattle.fit.proofs.Asked.{fit_room}
use Rattle.fit.proofs.Judged.{fine_tame, fine_solvable}
use Rattle.fit.proofs.Rising.{Rising, fit_rise_or_repeat}
use Rattle.fit.proofs.Passing.{fit_knots-length, fit_knots_pass}
use Rattle.fit.proofs.Repeats.{repeat_refused}

-- ---- a curve through n points, all of whose numbers are finite

module _ (q : List Float) (two : 2 ≤ points_in q) (room : points_in q ≤ 64) (fine : fit_fine q ≡ true) where
  abbrev n : ℕ
  n = points_in q

  tame : some_wild (knots_through q) 70 ≡ false
  tame = fine_tame q fine

  solvable : solved_ok plain (n + 2) (rows_through q) ≡ true
  solvable = fine_solvable q fine

  -- no parameter is the next, since their rows would be refused
  pub rises : Rising (fit_parameter plain q n) n
  rises = elim (fit_rise_or_repeat q n two room tame) [
    | inl h ↦ h
    | inr e ↦ no (sym (repeat_refused (span_of (knots_through q) (n + 2)) (knots_through q) (fit_parameter plain q n) q n e) ∙ solvable)
  ]

  -- the answers of the solve
  answered : (r : ℕ) → r < n + 2
      → (finite (at1 plain (solution_through q).xs r) ≡ true) × (finite (at1 plain (solution_through q).ys r) ≡ true)
  unfolding solution_through
  answered r l =
      let f = solved-fine plain (n + 2) (rows_through q) solvable r l in (
        ap finite (x-at plain (n + 2) (rows_through q) solvable (omega arith) r l) ∙ f.0,
        ap finite (y-at plain (n + 2) (rows_through q) solvable (omega arith) r l) ∙ f.1,
      )

  pub curve_rechecked : finite (curve_through q).length ≡ true → Passed (by_record (curve_through q)).rules
  unfolding curve_through
  curve_rechecked measured =
      let counted = counted_all (n + 2) (n + 2 + 4) (knots_through q) (omega (arith, fit_knots-length q n)) in
      let z = number_of (ap (λ (l : List Float). first_of (knot_rules Control (n + 2) true l)) counted) ∙ fit_knots_pass q n two room tame rises in
      let shape = shape_in (curve_through q) in
      measured_passes (n + 2 + 4) shape
      (tame_passes (n + 2 + 4) shape z
      (none_wild (solution_through q).xs (n + 2) (λ r l. (answered r l).0)) (none_wild (solution_through q).ys (n + 2) (λ r l. (answered r l).1)))
      measured

-- what the rules of the build let through
pub fit_rechecked : (q : List Float) (given : Bool) (ks : List Float) (short : Bool) → Passed (fit_rules q given ks short) → Passed (by_record (curve_through q)).rules
fit_rechecked q given ks short h =
    let parts = build_parts Fit q given ks short _ h in
    let n = fit_room q given ks parts.0 in
    let fine = not-false _ parts.2 in
    curve_rechecked q n.0 n.1 (and_left (fit_fine q) _ fine) (and_right (fit_fine q) _ fine)
