-- Demand 3 (docs/RULES.md), for an accepted curve with knots of at most 2 ^ 20 in size and a parameter in its domain. `hull_point`: what is answered for the point
-- lies, where it is finite, in the hull of its span's four control points. `never_refused`: where the span is at least 2 ^ -20 long and the
-- coordinates are at most 2 ^ 500 in size, it is finite. Assumes nothing.
use mathlib.Core.Path.{◌≡◌, refl, sym, ap, ◌∙◌, subst}
use mathlib.Core.Bool.{true, false, not}
use mathlib.Core.List.{List}
use Prim.Native.Nat.{ℕ, zero, suc, ◌+◌, ◌≤◌, ◌<◌}
use native.Mathlib.Omega.{arith}
use lib.ListN.{length, take}
use lib.Ieee.{Float}
use lib.Ieee.Scale.{finite}
use Rattle.meaning.specs.Scalar.{plain}
use Rattle.meaning.specs.Loops.{turns}
use Rattle.meaning.specs.Table.{at1}
use Rattle.meaning.specs.Search.{some}
use Rattle.span.specs.Span.{span_of}
use Rattle.meaning.proofs.Searching.{found_none}
use Rattle.knots.proofs.Accepted.{Accepted}
use Rattle.plane.specs.Vector.{Vector}
use Rattle.shape.specs.Shape.{Shape}
use Rattle.evaluate.specs.Point.{placed, inside_of, orders_of}
use Rattle.evaluate.proofs.Places.{in_domain}
use Rattle.hull.specs.Hull.{InHull}
use Rattle.hull.specs.Asked.{span_at, LongSpan, Modest}
use Rattle.hull.proofs.Given.{Coordinates, Within}
use Rattle.hull.proofs.Coordinate.{hull_coordinate, fine_coordinate}

-- ---- the point stands first in the room for five orders

module _ (f : ℕ → Vector Float) where
  -- a room of ten, with x and y of order 0 in front
  record Front (l : List Float) : Type 0 where
    long : length l ≡ 10
    x-first : at1 plain l 0 ≡ (f 0).x
    y_next : at1 plain l 1 ≡ (f 0).y

  in_front : (nd : ℕ) → nd ≤ 4 → Front (placed plain (nd + 1) f)
  unfolding placed turns
  in_front zero h = record { long = refl; x-first = refl; y_next = refl }
  in_front (suc zero) h = record { long = refl; x-first = refl; y_next = refl }
  in_front (suc (suc zero)) h = record { long = refl; x-first = refl; y_next = refl }
  in_front (suc (suc (suc zero))) h = record { long = refl; x-first = refl; y_next = refl }
  in_front (suc (suc (suc (suc zero)))) h = record { long = refl; x-first = refl; y_next = refl }
  in_front (suc (suc (suc (suc (suc nd))))) h = absurd (omega arith)

module _ (c : Shape Float) (t : Float) (a : Accepted (take (c.n + 4) c.knots) c.n) (d : Within c t) (nd : ℕ) where
  -- ---- the point by the polynomial of its span

  -- what evaluation's definition has for the point, where the orders up to nd are asked for
  abbrev pub point : Vector Float
  point = inside_of plain (span_of c.knots c.n) c t nd 0

  pub hull-x : Coordinates c.n c.xs → finite point.x ≡ true → InHull c.xs (span_at c t) point.x
  unfolding inside_of
  hull-x k f = hull_coordinate c t a d c.xs k nd f

  pub hull-y : Coordinates c.n c.ys → finite point.y ≡ true → InHull c.ys (span_at c t) point.y
  unfolding inside_of
  hull-y k f = hull_coordinate c t a d c.ys k nd f

  pub fine-x : Coordinates c.n c.xs → LongSpan c (span_at c t) → Modest c.n c.xs → finite point.x ≡ true
  unfolding inside_of
  fine-x k l m = fine_coordinate c t a d c.xs k nd l m

  pub fine-y : Coordinates c.n c.ys → LongSpan c (span_at c t) → Modest c.n c.ys → finite point.y ≡ true
  unfolding inside_of
  fine-y k l m = fine_coordinate c t a d c.ys k nd l m

  -- ---- what is answered

  -- the room that evaluation answers
  abbrev pub orders : List Float
  orders = orders_of plain (span_of c.knots c.n) c t nd

  module _ (q : nd ≤ 4) where
    front : Front (inside_of plain (span_of c.knots c.n) c t nd) orders
    front =
        subst (Front (inside_of plain (span_of c.knots c.n) c t nd))
        (in_domain plain (span_of c.knots c.n) c t nd a.four a.room q d.from d.to)
        (in_front (inside_of plain (span_of c.knots c.n) c t nd) nd q)

    x_is : at1 plain orders 0 ≡ point.x
    x_is = front.x-first

    y_is : at1 plain orders 1 ≡ point.y
    y_is = front.y_next

    pub ten : length orders ≡ 10
    ten = front.long

    pub hull_point : Coordinates c.n c.xs → Coordinates c.n c.ys → ((j : ℕ) → j < 2 → finite (at1 plain orders j) ≡ true)
        → InHull c.xs (span_at c t) (at1 plain orders 0) × InHull c.ys (span_at c t) (at1 plain orders 1)
    hull_point kx ky f = (
      subst (InHull c.xs (span_at c t)) (sym x_is) (hull-x kx (ap finite (sym x_is) ∙ f 0 (omega arith))),
      subst (InHull c.ys (span_at c t)) (sym y_is) (hull-y ky (ap finite (sym y_is) ∙ f 1 (omega arith))),
    )

    pub never_refused : Coordinates c.n c.xs → Coordinates c.n c.ys → LongSpan c (span_at c t) → Modest c.n c.xs
        → Modest c.n c.ys
        → (j : ℕ) → j < 2 → finite (at1 plain orders j) ≡ true
    never_refused kx ky l mx my zero h = ap finite x_is ∙ fine-x kx l mx
    never_refused kx ky l mx my (suc zero) h = ap finite y_is ∙ fine-y ky l my
    never_refused kx ky l mx my (suc (suc j)) h = absurd (omega arith)

    -- of the point alone, by row 15's test: that one of the two numbers is not finite
    pub point_passes : Coordinates c.n c.xs → Coordinates c.n c.ys → LongSpan c (span_at c t) → Modest c.n c.xs → Modest c.n c.ys
        → some 0 2 (λ j. not (finite (at1 plain orders j))) ≡ false
    point_passes kx ky l mx my = found_none (λ j. not (finite (at1 plain orders j))) 0 2 (λ j g h. ap not (never_refused kx ky l mx my j h))
