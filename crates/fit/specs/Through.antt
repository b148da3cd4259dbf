-- A curve through n points q, over any scalar: the rows of its system, their solution, and all that is stored on the way. docs/RULES.md, "Fit points"
-- and "When 15 is given", decides. `sp` finds the span of a parameter.
use mathlib.Core.List.{List, ◌++◌, flatten}
use Rattle.std.specs.Prelude.{ℕ, ◌+◌, Float}
use Rattle.meaning.specs.Scalar.{Ops}
use Rattle.solve.specs.Stored.{stored_by_solve}
use Rattle.solve.specs.Outcome.{Solution, solution_of}
use Rattle.fit.specs.Parameters.{fit_parameter, fit_knots}
use Rattle.fit.specs.System.{fit_rows}

module _ {A : Type 0} (o : Ops A) (sp : Float → ℕ) (q : List A) (n : ℕ) where
  abbrev pub rows_over : List (List A)
  rows_over = fit_rows o sp (fit_knots o q n) (fit_parameter o q n) q n

  -- the control points, and whether every number stored by the solve is finite
  abbrev pub solution_over : Solution A
  solution_over = solution_of o (n + 2) rows_over

  -- every number that is stored: the knots, the matrix with the right sides, and what the solve stores. The steps are not stored.
  abbrev pub stored_over : List A
  stored_over = fit_knots o q n ++ flatten rows_over ++ stored_by_solve o (n + 2) rows_over
