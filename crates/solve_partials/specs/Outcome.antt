-- What a solve with partials answers and what it leaves in the slices that it was lent. docs/RULES.md, "Work" and "Partials", decide: m rows of m + 2
-- cells lie at the front of both, (m² + 2m)(1 + c) doubles and m² + 2m bytes, and hold zeros afterwards; the rest is unchanged. The definition is
-- that of the plain solve at the other scalar.
use Rattle.std.specs.Prelude.{Bool, ◌&&◌, cond, List, ◌++◌, ℕ, ◌+◌, ◌*◌, length, get_or, drop, replicate, leb, Float}
use Rattle.meaning.specs.Scalar.{zero64}
use Rattle.meaning.specs.Search.{listed}
use Rattle.partials.specs.declared.Dv.{Dv}
use Rattle.partials.specs.Dual.{cst_dv, dual}
use Rattle.cells.specs.Cell.{cell_at}
use Rattle.solve.specs.Rows.{rows_of}
use Rattle.solve.specs.Outcome.{Solution, no_solution, solution_of}

-- the cells of m rows
abbrev pub room_of : ℕ → ℕ
room_of m = m * (m + 2)

-- there are 1 to 14 rows, at most 27 partials, and room for the rows in slices of so many doubles and bytes
abbrev pub fits : ℕ → ℕ → ℕ → ℕ → Bool
fits m c doubles bytes = leb 1 m && (leb m 14 && (leb c 27 && (leb (room_of m) bytes && leb (room_of m * (c + 1)) doubles)))

-- the m rows of m + 2 values that lie at the front of the slices
unfoldable pub rows_in : ℕ → ℕ → List Float → List ℕ → List (List Dv)
unfolding rows_of listed cell_at
rows_in m c w ns = rows_of m (m + 2) (listed 0 (room_of m) (cell_at c w ns))

-- the solution; none where the rows do not fit
unfoldable pub solution_in : ℕ → ℕ → List Float → List ℕ → Solution Dv
unfolding rows_in solution_of
solution_in m c w ns = cond (fits m c (length w) (length ns)) (solution_of dual m (rows_in m c w ns)) (no_solution dual)

-- four numbers of a list from index at on, and the four control points of a solution: +0.0 where there is none
abbrev pub four : ℕ → List Dv → List Dv
four at l = listed 0 4 (λ i. get_or l (at + i) (cst_dv zero64))

unfoldable pub four_of : ℕ → Solution Dv → Solution Dv
unfolding listed cst_dv
four_of at s = record { xs = four at s.xs; ys = four at s.ys; fine = s.fine }

-- the slices afterwards
unfoldable pub doubles_left : ℕ → ℕ → List Float → List ℕ → List Float
doubles_left m c w ns =
    let n = room_of m * (c + 1) in
    cond (fits m c (length w) (length ns)) (replicate n zero64 ++ drop n w) w

unfoldable pub counts_left : ℕ → ℕ → List Float → List ℕ → List ℕ
counts_left m c w ns =
    cond (fits m c (length w) (length ns)) (replicate (room_of m) 0 ++ drop (room_of m) ns) ns
