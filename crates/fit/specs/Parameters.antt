-- The parameters and the knots of a curve through n points, over any scalar. docs/RULES.md, "Fit points", decides; the original's `interpolate` the
-- order of the operations. The points stand x, y in turn in one list. A step, a parameter and a knot are each given by their index.
-- n is the number of stations, the points that the curve passes one after the other: of another form of fit they may be others.
use Rattle.std.proofs.Math.Bool.{cond}
use Rattle.std.specs.Prelude.{List, ℕ, ◌+◌, ◌-◌, ◌*◌, ltb, eqb, Float}
use Rattle.std.specs.Float.{binary64}
use Rattle.std.specs.Float.Ieee.{of_bits}
use Rattle.meaning.specs.Scalar.{Ops, zero64, one64}
use Rattle.meaning.specs.Table.{at1}
use Rattle.meaning.specs.Loops.{run}
use Rattle.meaning.specs.Search.{listed}
use Rattle.plane.specs.Vector.{Vector, sub_v, dot_v}

-- What is added to the square of each chord: 1e-24.
abbrev pub chord_square : Float
chord_square = of_bits binary64 0x3af3_57c2_99a8_8ea7

module _ {A : Type 0} (o : Ops A) where
  -- point k
  abbrev pub point_at : List A → ℕ → Vector A
  point_at q k = record { x = at1 o q (2 * k); y = at1 o q (2 * k + 1) }

  -- the step from point a to point b: the root of the root of d · d + 1e-24
  abbrev pub step_of : Vector A → Vector A → A
  step_of a b = let d = sub_v o b a in o.root (o.root (o.plus (dot_v o d d) (o.cst chord_square)))

  -- step k, from point k to the next
  unfoldable pub step_at : List A → ℕ → A
  step_at q k = step_of (point_at q k) (point_at q (k + 1))

  -- the first k steps, added from 0 in order
  unfoldable pub sum_of : (ℕ → A) → ℕ → A
  sum_of steps k = run 0 k (λ i s. o.plus s (steps i)) (o.cst zero64)

  -- parameter k of n: the first is 0, the last 1, one between them the running sum over the total
  unfoldable pub parameter_at : (ℕ → A) → ℕ → ℕ → A
  unfolding sum_of
  parameter_at steps n k =
      cond (eqb k 0) (o.cst zero64) (cond (ltb k (n - 1)) (o.over (sum_of steps k) (sum_of steps (n - 1))) (o.cst one64))

  -- knot j of n + 2 control points: four 0, the inner parameters, four 1, and +0.0 past those
  unfoldable pub knot_at : (ℕ → A) → ℕ → ℕ → A
  knot_at parameters n j =
      cond (ltb j 4) (o.cst zero64) (cond (ltb j (n + 2)) (parameters (j - 3)) (cond (ltb j (n + 6)) (o.cst one64) (o.cst zero64)))

  -- the knots in their room of 70
  unfoldable pub knots_by : (ℕ → A) → ℕ → List A
  unfolding listed knot_at
  knots_by parameters n = listed 0 70 (knot_at parameters n)

  -- the same of the points themselves
  abbrev pub fit_parameter : List A → ℕ → ℕ → A
  fit_parameter q n k = parameter_at (step_at q) n k

  abbrev pub fit_knots : List A → ℕ → List A
  fit_knots q n = knots_by (fit_parameter q n) n
