-- Inner: one parameter after the other, past the rules of the curve, with whatever finds the orders at a parameter.
use Rattle.std.specs.Prelude.{List, ℕ, ◌*◌, ◌≤◌, length, Float}
use Rattle.meaning.specs.Scalar.{plain}
use Rattle.meaning.specs.Table.{at1}
use Rattle.outcome.specs.Outcome.{Outcome, answering}
use Rattle.point.specs.Point.{numbers_for, point_rows}

-- what these orders leave in a place
abbrev pub of_orders : List Float → Float → ℕ → List Float → Outcome
of_orders numbers t order place = answering (point_rows numbers t order place) numbers (numbers_for order) place

-- what each parameter leaves in its place
abbrev pub each_of : (Float → List Float) → List Float → ℕ → ℕ → List Float → Outcome
each_of orders ts order k place = of_orders (orders (at1 plain ts k)) (at1 plain ts k) order place

-- an order that there is, and room for n answers
pub record Fits (n order : ℕ) (out : List Float) (refusals : List ℕ) : Type 0 where
  pub low : order ≤ 4
  pub places : n * numbers_for order ≤ length out
  pub numbers : n ≤ length refusals
