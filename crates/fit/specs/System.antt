-- The linear system of the control points of a curve through n points, over any scalar. docs/RULES.md, "Fit points", decides: the rows say
-- C''(0) = 0, C at each parameter, C''(1) = 0, and with n points there are m = n + 2 control points. A row is given by the number that stands at
-- each index of it, so that another form of fit makes other rows of the same `row_at`. n is the number of stations, the points that the curve passes
-- one after the other; a further form of fit has other stations and other end rows, and n + 2 control points all the same.
use Rattle.std.specs.Prelude.{◌&&◌, List, [], ℕ, ◌+◌, ◌-◌, get_or, ltb, leb, eqb, Float}
use Rattle.std.proofs.Math.Bool.{cond}
use Rattle.meaning.specs.Scalar.{Ops, zero64, one64}
use Rattle.meaning.specs.Table.{at1}
use Rattle.meaning.specs.Search.{listed}
use Rattle.basis.specs.Basis.{basis_of}
use Rattle.plane.specs.Vector.{Vector}
use Rattle.fit.specs.Parameters.{point_at}

module _ {A : Type 0} (o : Ops A) where
  abbrev pub origin : Vector A
  origin = record { x = o.cst zero64; y = o.cst zero64 }

  -- four numbers in the columns i - 3 to i, and +0.0 in every other
  unfoldable pub spread : List A → ℕ → ℕ → A
  spread four i k = cond (leb i (k + 3) && leb k i) (at1 o four (k + 3 - i)) (o.cst zero64)

  -- number k of a row: m matrix numbers, then the two right sides
  unfoldable pub with_sides : ℕ → (ℕ → A) → Vector A → ℕ → A
  with_sides m entry b k = cond (ltb k m) (entry k) (cond (eqb k m) b.x b.y)

-- `sp` finds the span of a parameter among the knots us
module _ {A : Type 0} (o : Ops A) (sp : Float → ℕ) (us : List A) where
  -- what control point k counts for in the derivative of order d at t
  unfoldable pub row_at : A → ℕ → ℕ → A
  unfolding spread
  row_at t d k = let i = sp (o.val t) in spread o (get_or (basis_of o us i t d) d []) i k

  -- the row that says: the derivative of order d at t is b
  unfoldable pub row_of : ℕ → A → ℕ → Vector A → List A
  unfolding listed with_sides row_at
  row_of m t d b = listed 0 (m + 2) (with_sides o m (row_at t d) b)

  -- row r of n + 2 for the points q at their parameters: the first and the last, and one for each point between them
  unfoldable pub fit_row : (ℕ → A) → List A → ℕ → ℕ → List A
  unfolding row_of
  fit_row parameters q n r =
      cond (eqb r 0) (row_of (n + 2) (o.cst zero64) 2 (origin o))
      (cond (leb r n) (row_of (n + 2) (parameters (r - 1)) 0 (point_at o q (r - 1)))
      (row_of (n + 2) (o.cst one64) 2 (origin o)))

  unfoldable pub fit_rows : (ℕ → A) → List A → ℕ → List (List A)
  unfolding listed fit_row
  fit_rows parameters q n = listed 0 (n + 2) (fit_row parameters q n)
