-- A curve through 2 to 12 points with partials with respect to their coordinates. docs/RULES.md, "Fit points", "Partials", "Work" and "When 15 is given",
-- decides. The definitions are the fit's, at the other scalar; the span of a parameter is the plain fit's, whose knots are the values of these.
use Rattle.std.specs.Prelude.{Bool, true, false, ◌&&◌, cond, List, ◌++◌, ℕ, ◌+◌, ◌-◌, ◌*◌, ◌/◌, leb, length, drop, replicate, Float}
use Rattle.meaning.specs.Scalar.{zero64}
use Rattle.partials.specs.declared.Dv.{Dv}
use Rattle.partials.specs.Dual.{cst_dv, dual}
use Rattle.basis.specs.Basis.{window}
use Rattle.shape.specs.Shape.{points_in}
use Rattle.evaluate.specs.Piece.{four_of}
use Rattle.solve.specs.Stored.{all_fine}
use Rattle.solve.specs.Outcome.{Solution}
use Rattle.fit.specs.Parameters.{fit_knots}
use Rattle.fit.specs.Through.{rows_over, solution_over, stored_over}
use Rattle.fit.specs.Fit.{span_through}
use Rattle.fit_partials.specs.Variables.{variables_of}

-- the knots, and the rows of the system
abbrev pub knots_with : List Float → List Dv
knots_with q = fit_knots dual (variables_of q) (points_in q)

abbrev pub rows_with : List Float → List (List Dv)
rows_with q = rows_over dual (span_through q) (variables_of q) (points_in q)

-- their solution
unfoldable pub solution_with : List Float → Solution Dv
solution_with q = solution_over dual (span_through q) (variables_of q) (points_in q)

-- every number that is stored is finite, with its partials
unfoldable pub fine_with : List Float → Bool
fine_with q = all_fine dual (stored_over dual (span_through q) (variables_of q) (points_in q))

-- ---- what one span reads of the curve

-- its six knots and its four control points, and the verdict on the curve: all of them +0.0 where it is no
pub record Piece : Type 0 where
  pub knots : List Dv
  pub xs : List Dv
  pub ys : List Dv
  pub fine : Bool

abbrev pub no_piece : Piece
no_piece = let zero = cst_dv zero64 in record { knots = replicate 6 zero; xs = replicate 4 zero; ys = replicate 4 zero; fine = false }

-- the span of t
unfoldable pub piece_through : List Float → Float → Piece
piece_through q t =
    let i = span_through q t in
    let s = solution_with q in
    cond (fine_with q)
    (record { knots = window dual (knots_with q) i; xs = four_of dual s.xs (i - 3) 1; ys = four_of dual s.ys (i - 3) 1; fine = true }) no_piece

-- ---- in two lent slices, with room for c partials to a number

-- how many numbers the system has, for so many numbers of points
abbrev pub cells_for : ℕ → ℕ
cells_for numbers = (numbers / 2 + 2) * (numbers / 2 + 2 + 2)

-- there are 2 to 12 points, a partial for each of their numbers, and room for the system in slices of so many doubles and bytes
abbrev pub able : ℕ → ℕ → ℕ → ℕ → Bool
able numbers c doubles bytes =
    leb 2 (numbers / 2)
    && (leb (numbers / 2) 12 && (leb c 27 && (leb numbers c && (leb (cells_for numbers) bytes && leb (cells_for numbers * (c + 1)) doubles))))

-- the answer, and both slices afterwards: zeros in the needed part
unfoldable pub piece_in : List Float → ℕ → Float → List Float → List ℕ → Piece
piece_in q c t w ns = cond (able (length q) c (length w) (length ns)) (piece_through q t) no_piece

unfoldable pub doubles_after : List Float → ℕ → List Float → List ℕ → List Float
doubles_after q c w ns =
    let n = cells_for (length q) * (c + 1) in
    cond (able (length q) c (length w) (length ns)) (replicate n zero64 ++ drop n w) w

unfoldable pub counts_after : List Float → ℕ → List Float → List ℕ → List ℕ
counts_after q c w ns =
    let n = cells_for (length q) in
    cond (able (length q) c (length w) (length ns)) (replicate n 0 ++ drop n ns) ns
