-- From what the code holds to the definition: the arrays are the definition's parameters and knots, and where these are finite the span that the
-- search finds is the rules', so that the rows, the verdicts and the solution are the definition's. Assumes nothing.
use mathlib.Core.Path.{◌≡◌, refl, sym, ap, subst, ◌∙◌}
use mathlib.Core.Bool.{Bool, true, false, not, ◌&&◌}
use mathlib.Core.List.{List, [], flatten}
use Prim.Native.Nat.{ℕ, ◌+◌, ◌*◌, ◌≤◌, ◌<◌}
use native.Mathlib.Omega.{arith}
use borrow.Author.Tests.{eqb-true}
use lib.ListN.{length, drop}
use lib.Ieee.{Float, nan}
use Rattle.meaning.specs.Scalar.{Ops, plain}
use Rattle.meaning.specs.Table.{at1}
use Rattle.meaning.specs.Search.{listed}
use Rattle.meaning.proofs.Tests.{by_two, no}
use Rattle.meaning.proofs.Filling.{length-listed, nth_listed}
use Rattle.refusal.specs.Refusals.{Row, first_of, passes}
use Rattle.refusal.proofs.Rows.{Passed, row_passed}
use Rattle.span.specs.Span.{span_of}
use Rattle.span.specs.Counting.{counted_of}
use Rattle.solve.specs.Rows.{flat, rows_of}
use Rattle.solve.specs.Stored.{all_fine}
use Rattle.solve.specs.Outcome.{Solution, solution_of, fits, work_of}
use Rattle.solve.specs.Buffer.{solve_of}
use Rattle.solve.proofs.Flat.{flat-of_rows, rows_shaped_of}
use Rattle.solve.proofs.Outcomes.{fits_true, solve_of-rows, work-of_rows}
use Rattle.outcome.specs.Outcome.{some_wild}
use Rattle.shape.specs.Shape.{points_in}
use Rattle.curve.specs.declared.Curve.{Curve}
use Rattle.curve.specs.Record.{curve_over}
use Rattle.curve.specs.Build.{Built, building}
use Rattle.curve.specs.Making.{measuring}
use Rattle.fit.specs.Parameters.{step_at, parameter_at, knot_at, knots_by, fit_parameter, fit_knots}
use Rattle.fit.specs.System.{fit_rows}
use Rattle.fit.specs.Fit.{controls_for, knots_through, rows_through, solution_through, curve_through, fit_fine, making}
use Rattle.fit.specs.Fitting.{work_for}
use Rattle.fit.specs.Stored.{found_fit_rows, StoredAll, curve_with, interpolated}
use Rattle.fit.proofs.Sums.{listed_cong, parameter_cong, knots_cong}
use Rattle.fit.proofs.Rows.{fit_rows_cong, found_shaped}
use Rattle.fit.proofs.Rising.{fit_span}
use Rattle.fit.proofs.Judged.{fit_fine_lem, fine_tame}

-- ---- the solve of the filled buffer

module _ (us ps q : List Float) (n : ℕ) (few : n ≤ 64) (w w' : List Float) (room : (n + 2) * (n + 2 + 2) ≤ length w) (kept : length w' ≡ length w)
    (fine : Bool) (f : StoredAll us ps q n w w' fine) where
  abbrev m : ℕ
  m = n + 2

  abbrev rest : List Float
  rest = drop (m * (m + 2)) w

  filled : w' ≡ flat (found_fit_rows us ps q n) rest
  filled = f.held (rows_of m (m + 2) w) rest (flat-of_rows m (m + 2) w) (rows_shaped_of m (m + 2) w room)

  fits_now : fits m w' ≡ true
  fits_now = fits_true m w' (omega arith) (omega arith) (omega (arith, kept))

  solve_filled : solve_of m w' ≡ solution_of plain m (found_fit_rows us ps q n)
  solve_filled = solve_of-rows m _ rest w' filled (found_shaped us ps q n) fits_now

  work_filled : work_of m w' ≡ work_of m w
  work_filled =
      work-of_rows m _ rest w' filled (found_shaped us ps q n) fits_now
      ∙ sym (work-of_rows m (rows_of m (m + 2) w) rest w (flat-of_rows m (m + 2) w) (rows_shaped_of m (m + 2) w room)
      (fits_true m w (omega arith) (omega arith) room))

-- rules that say the same, of a curve that is the same where they let it pass
building_as : (a b : List Row) (c d : Curve) → first_of a ≡ first_of b → (Passed b → c ≡ d) → building a c ≡ building b d
unfolding building
building_as a b c d e h =
    rw e (by_two (passes b) (λ p. rw p (ap (λ (x : Curve). record { refusal = first_of b; curve = x }) (h (eqb-true _ 0 p)))) (λ p. rw p))

-- ---- the arrays

-- parameters made of the steps are the definition's
pub parameters_are : {A : Type 0} (o : Ops A) (q s p : List A) (m n : ℕ) → m + 1 ≡ n → s ≡ listed 0 m (step_at o q)
    → p ≡ listed 0 n (parameter_at o (at1 o s) (length s + 1)) → p ≡ listed 0 n (fit_parameter o q n)
parameters_are {A} o q s p m n e hs hp =
    let long : length s + 1 ≡ n = omega (arith, ap length hs, length-listed 0 m (step_at o q)) in
    hp
    ∙ ap (λ (k : ℕ). listed 0 n (parameter_at o (at1 o s) k)) long
    ∙ listed_cong 0 n (parameter_at o (at1 o s) n) (fit_parameter o q n)
    (λ k l. parameter_cong o (at1 o s) (step_at o q) n k
    (λ i b. ap (λ (t : List A). at1 o t i) hs ∙ nth_listed m i (step_at o q) o.off (omega arith)))

-- so are the knots that are made of these
pub knots_by_are : {A : Type 0} (o : Ops A) (q p u : List A) (n : ℕ) → 1 ≤ n → p ≡ listed 0 n (fit_parameter o q n)
    → u ≡ listed 0 70 (knot_at o (at1 o p) (length p)) → u ≡ fit_knots o q n
unfolding knots_by
knots_by_are {A} o q p u n h hp hu =
    hu
    ∙ ap (λ (k : ℕ). knots_by o (at1 o p) k) (ap length hp ∙ length-listed 0 n (fit_parameter o q n))
    ∙ knots_cong o (at1 o p) (fit_parameter o q n) n h (λ k l. ap (λ (t : List A). at1 o t k) hp ∙ nth_listed n k (fit_parameter o q n) o.off l)

module _ (q p u : List Float) (two : 2 ≤ points_in q) (few : points_in q ≤ 64)
    (hp : p ≡ listed 0 (points_in q) (fit_parameter plain q (points_in q))) (hu : u ≡ listed 0 70 (knot_at plain (at1 plain p) (length p))) where
  parameter_is : (k : ℕ) → k < points_in q → at1 plain p k ≡ fit_parameter plain q (points_in q) k
  parameter_is k l =
      ap (λ (t : List Float). at1 plain t k) hp ∙ nth_listed (points_in q) k (fit_parameter plain q (points_in q)) nan l

  how_many : length p ≡ points_in q
  how_many = ap length hp ∙ length-listed 0 (points_in q) (fit_parameter plain q (points_in q))

  knots_are : u ≡ knots_through q
  knots_are = knots_by_are plain q p u (points_in q) (omega arith) hp hu

  -- ---- finite knots
  module _ (tame : some_wild (knots_through q) 70 ≡ false) where
    abbrev Span : Type 0
    Span = Float → ℕ

    span_is : counted_of (knots_through q) (controls_for q) ≡ span_of (knots_through q) (controls_for q)
    span_is = λ i t. fit_span q (points_in q) two few tame t i

    rows_are : found_fit_rows u p q (points_in q) ≡ rows_through q
    unfolding found_fit_rows
    rows_are =
        fit_rows_cong plain (counted_of u (controls_for q)) u (at1 plain p) (fit_parameter plain q (points_in q)) q (points_in q) (omega arith) parameter_is
        ∙ ap (λ (us : List Float). fit_rows plain (counted_of us (controls_for q)) us (fit_parameter plain q (points_in q)) q (points_in q)) knots_are
        ∙ ap (λ (sp : Span). fit_rows plain sp (knots_through q) (fit_parameter plain q (points_in q)) q (points_in q)) span_is

  -- ---- the verdicts of the filling and of the solve, and what is built
  module _ (stored : Bool) (s : Solution Float)
      (hr : stored ≡ all_fine plain (flatten (found_fit_rows u p q (points_in q))))
      (hv : s ≡ solution_of plain (controls_for q) (found_fit_rows u p q (points_in q))) where
    tame_solution : some_wild (knots_through q) 70 ≡ false → s ≡ solution_through q
    unfolding solution_through
    tame_solution tame = hv ∙ ap (solution_of plain (controls_for q)) (rows_are tame)

    verdict : (not (some_wild u 70) && (stored && s.fine)) ≡ fit_fine q
    verdict =
        rw (ap (λ (us : List Float). some_wild us 70) knots_are, fit_fine_lem q)
        (by_two (some_wild (knots_through q) 70) (λ wild. rw wild)
        (λ tame.
        let rows = hr ∙ ap (λ (M : List (List Float)). all_fine plain (flatten M)) (rows_are tame) in
        rw tame (λ i. rows i && (tame_solution tame i).fine)))

    same_curve : fit_fine q ≡ true → curve_over (controls_for q) u s.xs s.ys ≡ curve_through q
    unfolding curve_through
    same_curve fine = let v = tame_solution (fine_tame q fine) in λ i. curve_over (controls_for q) (knots_are i) (v i).xs (v i).ys

    -- a curve that is not fine is refused, whatever it is
    built_with : curve_with (controls_for q) u stored s ≡ measuring (fit_fine q) (curve_through q)
    built_with =
        ap (λ (t : Bool). measuring t (curve_over (controls_for q) u s.xs s.ys)) verdict
        ∙ by_two (fit_fine q) (λ fine. ap (measuring (fit_fine q)) (same_curve fine))
        (λ wild. rw wild (building_as _ _ _ _ refl (λ h. no (sym (row_passed 14 _ [] h).0))))

  -- the buffer was filled and solved
  pub solved-through : {w w₁ w₂ : List Float} {stored : Bool} {s : Solution Float} {b : Built} → work_for q ≤ length w → length w₁ ≡ length w
      → StoredAll u p q (length p) w w₁ stored → s ≡ solve_of (controls_for q) w₁ → w₂ ≡ work_of (controls_for q) w₁
      → b ≡ curve_with (controls_for q) u stored s → making b w₂ ≡ interpolated q w
  solved-through {w} {w₁} {w₂} {stored} {s} room kept f₀ hv hw e =
      let f = subst (λ (n : ℕ). StoredAll u p q n w w₁ stored) how_many f₀ in
      let solution = hv ∙ solve_filled u p q (points_in q) few w w₁ room kept stored f in
      let work = hw ∙ work_filled u p q (points_in q) few w w₁ room kept stored f in
      λ i. making ((e ∙ built_with stored s f.judged solution) i) (work i)
