-- Inner: the row, or the rows, that a buffer holds after filling, with the verdict on their numbers,
-- and what is answered past the rules 1 to 14. The span is the one that the search finds; where the knots do not fall it is the rules'.
use Rattle.std.specs.Prelude.{◌≡◌, Bool, not, ◌&&◌, ℕ, ◌+◌, set, Float}
use mathlib.Core.List.{List, flatten}
use Rattle.meaning.specs.Scalar.{plain}
use Rattle.meaning.specs.Table.{at1}
use Rattle.meaning.specs.Loops.{run}
use Rattle.span.specs.Counting.{counted_of}
use Rattle.plane.specs.Vector.{Vector}
use Rattle.solve.specs.Rows.{flat, OfRows}
use Rattle.solve.specs.Stored.{all_fine}
use Rattle.solve.specs.Outcome.{Solution, work_of}
use Rattle.outcome.specs.Outcome.{some_wild}
use Rattle.curve.specs.Build.{Built}
use Rattle.curve.specs.Record.{curve_over}
use Rattle.curve.specs.Making.{measuring}
use Rattle.fit.specs.System.{row_of, fit_row, fit_rows}
use Rattle.fit.specs.Fit.{controls_for, curve_through, fit_fine, Making, making}

-- the row over the knots us that says: the derivative of order d at t is b
unfoldable pub found_row : List Float → ℕ → Float → ℕ → Vector Float → List Float
unfolding row_of
found_row us m t d b = row_of plain (counted_of us m) us m t d b

-- row r, and all rows, of the system for n points q with the parameters ps
unfoldable pub found_fit_row : List Float → List Float → List Float → ℕ → ℕ → List Float
unfolding fit_row
found_fit_row us ps q n r = fit_row plain (counted_of us (n + 2)) us (at1 plain ps) q n r

unfoldable pub found_fit_rows : List Float → List Float → List Float → ℕ → List (List Float)
unfolding fit_rows
found_fit_rows us ps q n = fit_rows plain (counted_of us (n + 2)) us (at1 plain ps) q n

-- a row with four numbers from column `at` on, and with its right sides past m matrix numbers
unfoldable pub four_put : List Float → ℕ → List Float → List Float
four_put four at l = run 0 4 (λ j t. set t (at + j) (at1 plain four j)) l

unfoldable pub sides_put : ℕ → Vector Float → List Float → List Float
sides_put m b l = set (set l m b.x) (m + 1) b.y

-- `out` is the row, and `fine` tells whether its numbers are finite
pub record Stored (row out : List Float) (fine : Bool) : Type 0 where
  pub held : out ≡ row
  pub judged : fine ≡ all_fine plain row

-- the same of row r of the m rows at the front of the buffer w, which is w' afterwards
pub record StoredAt (m r : ℕ) (row w w' : List Float) (fine : Bool) : Type 0 where
  pub held : OfRows m (m + 2) w (λ M rest. w' ≡ flat (set M r row) rest)
  pub judged : fine ≡ all_fine plain row

-- and of every row of the system for n points
pub record StoredAll (us ps q : List Float) (n : ℕ) (w w' : List Float) (fine : Bool) : Type 0 where
  pub held : OfRows (n + 2) (n + 2 + 2) w (λ M rest. w' ≡ flat (found_fit_rows us ps q n) rest)
  pub judged : fine ≡ all_fine plain (flatten (found_fit_rows us ps q n))

-- ---- past the rules 1 to 14

-- the curve of m control points that a solve answered, with the knots us and the verdict on the rows
abbrev pub curve_with : ℕ → List Float → Bool → Solution Float → Built
curve_with m us stored s = measuring (not (some_wild us 70) && (stored && s.fine)) (curve_over m us s.xs s.ys)

-- the curve through the points q
abbrev pub interpolated : List Float → List Float → Making
interpolated q work = making (measuring (fit_fine q) (curve_through q)) (work_of (controls_for q) work)
