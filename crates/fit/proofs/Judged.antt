-- The verdict on every number that a fit stores, in three parts: the knots, the rows of the system, and what the solve stores. Assumes nothing.
use mathlib.Core.Path.{◌≡◌, sym, ap, ◌∙◌}
use mathlib.Core.Bool.{Bool, true, false, not, ◌&&◌, and_assoc}
use mathlib.Core.List.{List, ◌++◌, flatten}
use Prim.Native.Nat.{ℕ}
use borrow.Author.Tests.{not-true}
use lib.ListN.{length}
use lib.Ieee.{Float}
use lib.Ieee.Scale.{finite}
use Rattle.meaning.specs.Scalar.{plain}
use Rattle.meaning.specs.Table.{at1}
use Rattle.meaning.specs.Search.{every}
use Rattle.meaning.proofs.Tests.{same_test, and_left, and_right}
use Rattle.meaning.proofs.Every.{all, each}
use Rattle.solve.specs.Stored.{all_fine, stored_by_solve, solved_ok}
use Rattle.solve.proofs.Stored.{fine_append, fine-each}
use Rattle.solve.proofs.Outcomes.{solution_fine}
use Rattle.outcome.specs.Outcome.{some_wild}
use Rattle.outcome.proofs.Wild.{each_finite, none_wild}
use Rattle.shape.specs.Shape.{points_in}
use Rattle.fit.specs.Fit.{controls_for, knots_through, rows_through, solution_through, stored_through, fit_fine}
use Rattle.fit.proofs.Passing.{fit_knots-length}

every_tame : (l : List Float) (k : ℕ) → every k (λ i. finite (at1 plain l i)) ≡ not (some_wild l k)
every_tame l k =
    same_test _ _ (λ h. ap not (none_wild l k (each k (λ i. finite (at1 plain l i)) h))) (λ h. all k _ (each_finite l k (not-true (some_wild l k) h)))

-- a list of d numbers
pub tame_list : (l : List Float) (d : ℕ) → length l ≡ d → all_fine plain l ≡ not (some_wild l d)
tame_list l d e = fine-each plain l ∙ ap (λ (n : ℕ). every n (λ i. finite (at1 plain l i))) e ∙ every_tame l d

module _ (q : List Float) where
  knots-fine : all_fine plain (knots_through q) ≡ not (some_wild (knots_through q) 70)
  knots-fine = tame_list (knots_through q) 70 (fit_knots-length q (points_in q))

  solve_fine : all_fine plain (stored_by_solve plain (controls_for q) (rows_through q)) ≡ (solution_through q).fine
  unfolding solved_ok solution_through
  solve_fine = sym (solution_fine plain (controls_for q) (rows_through q))

  pub fit_fine_lem : fit_fine q ≡ (not (some_wild (knots_through q) 70) && (all_fine plain (flatten (rows_through q)) && (solution_through q).fine))
  unfolding fit_fine stored_through
  fit_fine_lem =
      let knots = knots_through q in
      let rows = flatten (rows_through q) in
      let steps = stored_by_solve plain (controls_for q) (rows_through q) in
      fine_append plain (knots ++ rows) steps ∙ ap (λ (b : Bool). b && all_fine plain steps) (fine_append plain knots rows)
      ∙ and_assoc (all_fine plain knots) (all_fine plain rows) (all_fine plain steps)
      ∙ (λ i. knots-fine i && (all_fine plain rows && solve_fine i))

  -- where it is yes
  module _ (fine : fit_fine q ≡ true) where
    pub fine_tame : some_wild (knots_through q) 70 ≡ false
    fine_tame = not-true _ (and_left _ _ (sym fit_fine_lem ∙ fine))

    pub fine_solvable : solved_ok plain (controls_for q) (rows_through q) ≡ true
    unfolding solution_through
    fine_solvable =
        sym (solution_fine plain (controls_for q) (rows_through q))
        ∙ and_right (all_fine plain (flatten (rows_through q))) _ (and_right (not (some_wild (knots_through q) 70)) _ (sym fit_fine_lem ∙ fine))
