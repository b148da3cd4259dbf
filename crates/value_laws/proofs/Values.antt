-- A value with partials has the value that the plain operations make: a curve over values with partials, evaluated, is the plain curve bit for bit,
-- whatever the partials are. Assumes nothing.
use mathlib.Core.Path.{◌≡◌, refl, ap}
use mathlib.Core.Bool.{true, not}
use mathlib.Core.List.{List, map}
use Prim.Native.Nat.{ℕ}
use lib.Ieee.{Float, le, ne, of_bits}
use Rattle.meaning.specs.Root.{root_of}
use Rattle.meaning.specs.Scalar.{plain, zero64}
use Rattle.meaning.proofs.Tests.{by_two}
use Rattle.meaning.proofs.Order.{le_left, le_not_lt, eq_refl}
use Rattle.root.proofs.Edges.{zero_else}
use Rattle.partials.specs.declared.Dv.{Dv}
use Rattle.partials.specs.Dual.{zip_dv, map_dv, cst_dv, add_dv, sub_dv, mul_dv, div_dv, neg_dv, root_dv, dual}
use Rattle.basis.specs.Basis.{basis_of}
use Rattle.shape.specs.Shape.{Shape}
use Rattle.evaluate.specs.Point.{weighted, order_at, orders_of}
use Rattle.value_laws.proofs.Hom.{Hom, map_table}
use Rattle.value_laws.proofs.Basis.{map_basis}
use Rattle.value_laws.proofs.Evaluate.{map_vector, map_shape, map_weighted, map_order, map_orders_lem}

abbrev pub value_of : Dv → Float
value_of d = d.v

-- at or below 0 the root is +0.0
root-low : (x : Float) → le x zero64 ≡ true → zero64 ≡ root_of x
unfolding of_bits ne
root-low x h = zero_else x (le_not_lt x zero64 h) (ap not (eq_refl x (le_left x zero64 h)))

root-value : (a : Dv) → value_of (root_dv a) ≡ root_of a.v
unfolding root_dv map_dv cst_dv
root-value a = by_two (le a.v zero64) (λ e. rw e (root-low a.v e)) (λ e. rw e)

pub values : Hom dual plain value_of
unfolding add_dv sub_dv mul_dv div_dv neg_dv zip_dv map_dv cst_dv
values = record {
  plus = λ x y. refl;
  minus = λ x y. refl;
  times = λ x y. refl;
  over = λ x y. refl;
  opp = λ x. refl;
  root = root-value;
  cst = λ v. refl;
  val = λ x. refl;
  off = refl;
}

-- ---- the curve

pub basis_values : (us : List Dv) (i : ℕ) (t : Dv) (nd : ℕ) → map_table value_of (basis_of dual us i t nd) ≡ basis_of plain (map value_of us) i (value_of t) nd
basis_values us i t nd = map_basis values us i t nd

pub weighted-value : (cs : List Dv) (i : ℕ) (row : List Dv) → value_of (weighted dual cs i row) ≡ weighted plain (map value_of cs) i (map value_of row)
weighted-value cs i row = map_weighted values cs i row

-- Order k at t: its values are order k of the plain curve at the value of t.
pub order_values : (sp : Float → ℕ) (c : Shape Dv) (t : Dv) (nd k : ℕ)
    → map_vector value_of (order_at dual sp c t nd k) ≡ order_at plain sp (map_shape value_of c) (value_of t) nd k
order_values sp c t nd k = map_order values sp c t nd k

-- the orders in their room
pub orders_values : (sp : Float → ℕ) (c : Shape Dv) (t : Dv) (nd : ℕ)
    → map value_of (orders_of dual sp c t nd) ≡ orders_of plain sp (map_shape value_of c) (value_of t) nd
orders_values sp c t nd = map_orders_lem values sp c t nd
