-- What demand 3 (docs/RULES.md) asks of a curve and a parameter, each bound once. That the rules accept the curve is asked beside it.
use Rattle.std.specs.Prelude.{◌≡◌, true, List, ℕ, ◌+◌, ◌*◌, ◌^◌, ◌≤◌, ◌<◌, Float}
use Rattle.std.specs.Float.Ieee.{le}
use Rattle.meaning.specs.Scalar.{plain}
use Rattle.meaning.specs.Table.{at1}
use Rattle.knots.specs.Rules.{knot}
use Rattle.span.specs.Span.{span_of}
use Rattle.shape.specs.Shape.{Shape}
use Rattle.hull.specs.Units.{U, rise_of, SizeAtMost}

-- knots of at most 2 ^ 20 in size, and a parameter from the first to the last of them
pub record InDomain (c : Shape Float) (t : Float) : Type 0 where
  pub sizes : (i : ℕ) → i < c.n + 4 → SizeAtMost 20 (knot c.knots i)
  pub from : le (knot c.knots 0) t ≡ true
  pub to : le t (knot c.knots (c.n + 3)) ≡ true

-- the span of t
abbrev pub span_at : Shape Float → Float → ℕ
span_at c t = span_of c.knots c.n t

-- span i is at least 2 ^ -20 long
abbrev pub LongSpan : Shape Float → ℕ → Type 0
LongSpan c i = U ≤ rise_of (knot c.knots i) (knot c.knots (i + 1)) * 2 ^ 20

-- the coordinates of n control points are at most 2 ^ 500 in size
abbrev pub Modest : ℕ → List Float → Type 0
Modest n cs = (j : ℕ) → j < n → SizeAtMost 500 (at1 plain cs j)

-- all of it: what a point that is never refused needs
pub record Drawable (c : Shape Float) (t : Float) : Type 0 where
  pub domain : InDomain c t
  pub long : LongSpan c (span_at c t)
  pub modest_x : Modest c.n c.xs
  pub modest_y : Modest c.n c.ys
