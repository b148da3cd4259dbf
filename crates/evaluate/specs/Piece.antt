-- Inner: how the code comes to a point, from what one span reads: its six knots and its four control points. Only private contracts cite this, and
-- those of slices and of windows, which are asked past their rules.
use Rattle.std.specs.Prelude.{◌≡◌, cond, Option, None, Some, List, [], ◌∷◌, ℕ, ◌+◌, ◌-◌, ◌*◌, ◌≤◌, eqb, length, get_or, set, replicate, Float}
use Rattle.meaning.specs.Scalar.{Ops, plain, zero64}
use Rattle.meaning.specs.Loops.{run}
use Rattle.meaning.specs.Table.{at1}
use Rattle.span.specs.Counting.{counted_of}
use Rattle.basis.specs.Basis.{basis_of, derivatives_of, window}
use Rattle.plane.specs.Vector.{Vector}
use Rattle.shape.specs.Shape.{Shape, points_in, slice_shape}
use Rattle.evaluate.specs.declared.Piece.{Piece}
use Rattle.evaluate.specs.Point.{weighted, straight_on, orders_of}

-- the span of a parameter, as the count finds it
abbrev pub found : Shape Float → Float → ℕ
found c = counted_of c.knots c.n

module _ {A : Type 0} (o : Ops A) where
  -- four numbers from index `at` on, `step` apart
  abbrev pub four_of : List A → ℕ → ℕ → List A
  four_of a at step = at1 o a at ∷ at1 o a (at + step) ∷ at1 o a (at + 2 * step) ∷ at1 o a (at + 3 * step) ∷ []

  -- order k, from the four control points of a span and the rows of the basis there
  abbrev pub of_four : List A → List A → List (List A) → ℕ → Vector A
  of_four xs ys ders k = record { x = weighted o xs 3 (get_or ders k []); y = weighted o ys 3 (get_or ders k []) }

  -- from knots whose span is i
  unfoldable pub on_span : List A → ℕ → List A → List A → A → ℕ → ℕ → Vector A
  on_span us i xs ys t nd k = of_four xs ys (basis_of o us i t nd) k

  -- from the window of six knots
  unfoldable pub on_window : List A → List A → List A → A → ℕ → ℕ → Vector A
  on_window w xs ys t nd k = of_four xs ys (derivatives_of o w 2 t nd) k

  -- what span i reads of a curve, and order k from it
  abbrev pub piece_of : Shape A → ℕ → Piece A
  piece_of c i = record { knots = window o c.knots i; xs = four_of c.xs (i - 3) 1; ys = four_of c.ys (i - 3) 1 }

  abbrev pub on_piece : Piece A → A → ℕ → ℕ → Vector A
  on_piece p t nd k = on_window p.knots p.xs p.ys t nd k

  -- order k at t where f gives the orders in a domain: straight on from the end past which t lies, if it lies past one
  abbrev pub by_end : Option A → (A → ℕ → ℕ → Vector A) → A → ℕ → ℕ → Vector A
  by_end None f t nd k = f t nd k
  by_end (Some e) f t nd k = straight_on o (f e 1) e t k

-- the six knots from knot i - 2 on, at 1 to 6 of a room of 70: there span i is span 3
unfoldable pub around : List Float → ℕ → List Float
around us i = run 0 6 (λ j l. set l (j + 1) (at1 plain us (i - 2 + j))) (replicate 70 zero64)

-- 4 to 66 points x, y in turn, and four knots more
pub record Counted (coords ks : List Float) : Type 0 where
  pub four : 4 ≤ points_in coords
  pub room : points_in coords ≤ 66
  pub long : length ks ≡ points_in coords + 4

-- the orders 0 to nd of the curve in two slices, and zeros where its knots are not four more than its points
unfoldable pub slice_orders : List Float → List Float → Float → ℕ → List Float
slice_orders coords ks t nd =
    let c = slice_shape coords ks in
    cond (eqb (length ks) (points_in coords + 4)) (orders_of plain (found c) c t nd) (replicate 10 zero64)
