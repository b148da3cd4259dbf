-- What is asked of a curve at a parameter. docs/RULES.md, "Evaluate" and "Refusals", decides.
use Rattle.std.specs.Prelude.{not, List, [], ◌∷◌, ◌++◌, ℕ, ◌+◌, ◌*◌, ltb, Float}
use Rattle.std.specs.Float.Ieee.Scale.{finite}
use Rattle.meaning.specs.Scalar.{plain}
use Rattle.meaning.specs.Table.{at1}
use Rattle.refusal.specs.Refusals.{Row, row}
use Rattle.outcome.specs.Outcome.{delivery_rules, Outcome, answering}
use Rattle.span.specs.Span.{span_of}
use Rattle.shape.specs.Shape.{Shape}
use Rattle.shape.specs.Offered.{Offered}
use Rattle.plane.specs.Vector.{unit_v}
use Rattle.evaluate.specs.Point.{orders_of}

-- the orders 0 to `order` at t, x and y in turn; the span is the rules'
abbrev pub point_orders : Shape Float → Float → ℕ → List Float
point_orders c t order = orders_of plain (span_of c.knots c.n) c t order

-- two numbers to an order
abbrev pub numbers_for : ℕ → ℕ
numbers_for order = 2 * (order + 1)

-- what is asked of the parameter and the order, then of the numbers
abbrev pub point_rows : List Float → Float → ℕ → List Float → List Row
point_rows numbers t order out = row 12 (not (finite t)) ∷ row 13 (ltb 4 order) ∷ delivery_rules numbers (numbers_for order) out

-- the point at t with its derivatives
unfoldable pub point_answer : Offered → Float → ℕ → List Float → Outcome
point_answer who t order out =
    let numbers = point_orders who.shape t order in
    answering (who.rules ++ point_rows numbers t order out) numbers (numbers_for order) out

-- the point and the unit tangent, C' over its length, from the orders 0 and 1
abbrev pub unit_in : List Float → List Float
unit_in d =
    let unit = unit_v plain (record { x = at1 plain d 2; y = at1 plain d 3 }) in
    at1 plain d 0 ∷ at1 plain d 1 ∷ unit.x ∷ unit.y ∷ []

unfoldable pub tangent_numbers : Shape Float → Float → List Float
tangent_numbers c t = unit_in (point_orders c t 1)

abbrev pub tangent_rows : List Float → Float → List Float → List Row
tangent_rows numbers t out = row 12 (not (finite t)) ∷ delivery_rules numbers 4 out

unfoldable pub tangent_answer : Offered → Float → List Float → Outcome
tangent_answer who t out =
    let numbers = tangent_numbers who.shape t in
    answering (who.rules ++ tangent_rows numbers t out) numbers 4 out
