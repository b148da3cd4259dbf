-- A point of a curve and its derivatives, over any scalar. docs/RULES.md, "Evaluate", decides; the original's `eval` and `eval_span` the order of the
-- operations.
use Rattle.std.specs.Prelude.{ℕ, zero, suc, ◌+◌, ◌-◌, ◌*◌, ◌&&◌, cond, List, [], get_or, set, replicate, leb, Float}
use Rattle.std.specs.Float.Ieee.{lt}
use Rattle.meaning.specs.Scalar.{Ops, zero64}
use Rattle.meaning.specs.Loops.{run}
use Rattle.meaning.specs.Table.{at1}
use Rattle.shape.specs.Shape.{Shape}
use Rattle.basis.specs.Basis.{basis_of}
use Rattle.plane.specs.Vector.{Vector, add_v, scale_v}

module _ {A : Type 0} (o : Ops A) where
  -- One coordinate: summed from +0.0 over the four control points of span i in rising index, product then sum.
  unfoldable pub weighted : List A → ℕ → List A → A
  weighted cs i row = run 0 4 (λ j s. o.plus s (o.times (at1 o cs (i - 3 + j)) (at1 o row j))) (o.cst zero64)

  -- both coordinates, for a row of basis values
  abbrev pub combined : Shape A → ℕ → List A → Vector A
  combined c i row = record { x = weighted c.xs i row; y = weighted c.ys i row }

  -- x and y of each of the first m orders in turn, in a room for five orders
  unfoldable pub placed : ℕ → (ℕ → Vector A) → List A
  placed m f = run 0 m (λ k l. set (set l (2 * k) (f k).x) (2 * k + 1) (f k).y) (replicate 10 (o.cst zero64))

  -- straight on to t from the end e of a domain, where f gives the orders at e: f 0 + (t - e) f 1, then f 1, then zeros
  abbrev pub straight_on : (ℕ → Vector A) → A → A → ℕ → Vector A
  straight_on f e t zero = add_v o (f 0) (scale_v o (f 1) (o.minus t e))
  straight_on f e t (suc zero) = f 1
  straight_on f e t (suc (suc k)) = record { x = o.cst zero64; y = o.cst zero64 }

-- `sp` finds the span of a parameter
module _ {A : Type 0} (o : Ops A) (sp : Float → ℕ) (c : Shape A) where
  -- order k by the polynomial of t's span, where the orders up to nd are asked for
  unfoldable pub inside_of : A → ℕ → ℕ → Vector A
  inside_of t nd k = combined o c (sp (o.val t)) (get_or (basis_of o c.knots (sp (o.val t)) t nd) k [])

  -- order k past the end e of the domain: C(e) + (t - e) C'(e), then C'(e), then zeros
  unfoldable pub beyond_of : A → A → ℕ → Vector A
  beyond_of e t k = straight_on o (inside_of e 1) e t k

  -- order k at t
  unfoldable pub order_at : A → ℕ → ℕ → Vector A
  order_at t nd k =
      let lo = at1 o c.knots 0 in
      let hi = at1 o c.knots (c.n + 3) in
      cond (lt (o.val t) (o.val lo)) (beyond_of lo t k) (cond (lt (o.val hi) (o.val t)) (beyond_of hi t k) (inside_of t nd k))

  -- the orders 0 to nd at t, and zeros where there is no such curve or order
  unfoldable pub orders_of : A → ℕ → List A
  orders_of t nd =
      cond (leb 4 c.n && (leb c.n 66 && leb nd 4)) (placed o (nd + 1) (order_at t nd)) (replicate 10 (o.cst zero64))
