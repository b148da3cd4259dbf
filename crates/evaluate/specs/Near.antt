-- Inner: the point alone, by an index that is tried for its span. For knots that do not fall it is the point of `orders_of`, whatever the index, which
-- `proofs/Near.antt` shows.
use Rattle.std.specs.Prelude.{cond, List, ℕ, Float}
use Rattle.meaning.specs.Scalar.{plain}
use Rattle.meaning.specs.Table.{at1}
use Rattle.span.specs.Within.{within}
use Rattle.plane.specs.Vector.{Vector}
use Rattle.shape.specs.Shape.{Shape}
use Rattle.evaluate.specs.Point.{inside_of, orders_of}
use Rattle.evaluate.specs.Piece.{found}

-- the point that stands in front of a room
abbrev pub point_in : List Float → Vector Float
point_in room = record { x = at1 plain room 0; y = at1 plain room 1 }

-- by span i where t lies in it, else by the span that the count finds
unfoldable pub point_near : Shape Float → Float → ℕ → Vector Float
point_near c t i = cond (within c.knots c.n t i) (inside_of plain (λ x. i) c t 0 0) (point_in (orders_of plain (found c) c t 0))
