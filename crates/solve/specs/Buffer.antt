-- Inner: the rows that a lent buffer holds, and what a solve answers of them.
use Rattle.std.specs.Prelude.{cond, List, ℕ, ◌+◌, Float}
use Rattle.meaning.specs.Scalar.{plain}
use Rattle.solve.specs.Rows.{rows_of}
use Rattle.solve.specs.Outcome.{Solution, no_solution, solution_of, fits}

unfoldable pub solve_of : ℕ → List Float → Solution Float
unfolding rows_of solution_of
solve_of m w = cond (fits m w) (solution_of plain m (rows_of m (m + 2) w)) (no_solution plain)
