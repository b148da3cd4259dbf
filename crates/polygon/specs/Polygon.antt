-- The length of the control polygon, over any scalar. The original's `polygon_length` decides.
use Rattle.std.specs.Prelude.{List, ℕ, ◌-◌}
use Rattle.meaning.specs.Scalar.{Ops, zero64}
use Rattle.meaning.specs.Table.{at1}
use Rattle.meaning.specs.Loops.{run}
use Rattle.plane.specs.Vector.{Vector, sub_v, norm_v}

module _ {A : Type 0} (o : Ops A) where
  -- the norms of the differences of each of n corners and the one before, summed from +0.0 in rising order
  unfoldable pub length_by : (ℕ → Vector A) → ℕ → A
  length_by corner n = run 1 n (λ i s. o.plus s (norm_v o (sub_v o (corner i) (corner (i - 1))))) (o.cst zero64)

  -- the corners are control points
  abbrev pub length_of : List A → List A → ℕ → A
  length_of xs ys n = length_by (λ i. record { x = at1 o xs i; y = at1 o ys i }) n
