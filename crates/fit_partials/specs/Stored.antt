-- Inner: what the filling of the system leaves in the two lent slices, and the numbers that lie in a cell as they are.
use Rattle.std.specs.Prelude.{◌≡◌, Bool, true, false, ◌&&◌, cond, List, [], ℕ, ◌+◌, ◌-◌, ◌*◌, ◌≤◌, ◌<◌, eqb, leb, length, get_or, drop, Float}
use Rattle.std.specs.Float.{nan}
use Rattle.meaning.specs.Scalar.{zero64, one64}
use Rattle.meaning.specs.Table.{at1}
use Rattle.meaning.specs.Search.{every}
use Rattle.partials.specs.declared.Dv.{Dv}
use Rattle.partials.specs.Dual.{fine_dv, dual}
use Rattle.span.specs.Counting.{counted_of}
use Rattle.plane.specs.Vector.{Vector}
use Rattle.cells.specs.Cell.{cell_at}
use Rattle.solve.specs.Outcome.{Solution}
use Rattle.basis.specs.Basis.{derivatives_of}
use Rattle.fit.specs.Parameters.{point_at}
use Rattle.fit.specs.System.{origin, spread, with_sides, row_of, fit_row, fit_rows}
use Rattle.fit_partials.specs.Variables.{variables_of}
use Rattle.fit_partials.specs.Through.{Piece, no_piece}

-- at most c partials, and +0.0 in the places past them
pub record Tidy (c : ℕ) (d : Dv) : Type 0 where
  pub few : d.n ≤ c
  pub zeros : (j : ℕ) → d.n ≤ j → j < length d.g → get_or d.g j nan ≡ zero64

-- n cells from cell `at` on hold f 0, f 1 and so on afterwards; those before hold what they held, and past them nothing is touched
pub record Laid (c at n : ℕ) (f : ℕ → Dv) (w : List Float) (ns : List ℕ) (w' : List Float) (ns' : List ℕ) : Type 0 where
  pub doubles : length w' ≡ length w
  pub bytes : length ns' ≡ length ns
  pub done : (k : ℕ) → k < n → cell_at c w' ns' (at + k) ≡ f k
  pub kept : (i : ℕ) → i < at → cell_at c w' ns' i ≡ cell_at c w ns i
  pub past : drop ((at + n) * (c + 1)) w' ≡ drop ((at + n) * (c + 1)) w
  pub past_bytes : drop (at + n) ns' ≡ drop (at + n) ns

-- the same, and `fine` tells whether these numbers are finite with their partials
pub record Stored (c at n : ℕ) (f : ℕ → Dv) (w : List Float) (ns : List ℕ) (w' : List Float) (ns' : List ℕ) (fine : Bool) : Type 0 where
  pub laid : Laid c at n f w ns w' ns'
  pub judged : fine ≡ every n (λ k. fine_dv (f k))

-- the right sides of a row, one after the other
abbrev pub side_of : Vector Dv → ℕ → Dv
side_of b k = cond (eqb k 0) b.x b.y

-- there is room for n cells from cell `at` on
pub record Room (c at n : ℕ) (w : List Float) (ns : List ℕ) : Type 0 where
  pub narrow : c ≤ 27
  pub few : at + n ≤ 224
  pub bytes : at + n ≤ length ns
  pub doubles : (at + n) * (c + 1) ≤ length w

-- what a span reads, where the verdict on all but the solve is `fine`: its six knots, and the four control points that were solved for
abbrev pub piece_of : Bool → List Dv → Solution Dv → Piece
piece_of fine six s = cond (fine && s.fine) (record { knots = six; xs = s.xs; ys = s.ys; fine = true }) no_piece

-- ---- the system

-- the row over the knots ks, whose values are us, that says: the derivative of order d at t is b
unfoldable pub found_row : List Dv → List Float → ℕ → Dv → ℕ → Vector Dv → List Dv
unfolding row_of
found_row ks us m t d b = row_of dual (counted_of us m) ks m t d b

-- row r, and all rows, of the system for n points q with the parameters ps
unfoldable pub found_fit_row : List Dv → List Float → List Dv → List Float → ℕ → ℕ → List Dv
unfolding fit_row
found_fit_row ks us ps q n r = fit_row dual (counted_of us (n + 2)) ks (at1 dual ps) (variables_of q) n r

unfoldable pub found_fit_rows : List Dv → List Float → List Dv → List Float → ℕ → List (List Dv)
unfolding fit_rows
found_fit_rows ks us ps q n = fit_rows dual (counted_of us (n + 2)) ks (at1 dual ps) (variables_of q) n

-- whether row r is one of a point, and the point at whose parameter it stands
abbrev pub of_point : ℕ → ℕ → Bool
of_point n r = cond (eqb r 0) false (leb r n)

abbrev pub station_of : ℕ → ℕ → ℕ
station_of n r = cond (eqb r 0) 0 (cond (leb r n) (r - 1) (n - 1))

-- number k of row r at t, from the six knots of its span i
unfoldable pub span_row : List Dv → ℕ → Dv → List Float → ℕ → ℕ → ℕ → Dv
span_row six i t q n r =
    let entry : ℕ → ℕ → Dv = λ d. spread dual (get_or (derivatives_of dual six 2 t d) d []) i in
    cond (of_point n r) (with_sides dual (n + 2) (entry 0) (point_at dual (variables_of q) (r - 1))) (with_sides dual (n + 2) (entry 2) (origin dual))

-- the knots and the parameters of n points have numbers that lie in a cell as they are, and the parameters begin with 0 and end with 1
pub record ReadyFit (c n : ℕ) (ks ps : List Dv) (q : List Float) : Type 0 where
  pub knots : (j : ℕ) → Tidy c (at1 dual ks j)
  pub parameters : (k : ℕ) → k < n → Tidy c (at1 dual ps k)
  pub first : at1 dual ps 0 ≡ dual.cst zero64
  pub last : at1 dual ps (n - 1) ≡ dual.cst one64
  pub points : length q ≤ c
