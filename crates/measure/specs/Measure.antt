-- What is measured of a whole curve. The original's `polygon_length` and `domain` decide; docs/RULES.md, "Refusals".
use Rattle.std.specs.Prelude.{not, List, [], ◌∷◌, ◌++◌, ◌+◌, Option, Some, None, Result, Ok, Err, Float}
use Rattle.std.specs.Float.Ieee.Scale.{finite}
use Rattle.meaning.specs.Scalar.{plain}
use Rattle.meaning.specs.Table.{at1}
use Rattle.refusal.specs.declared.Refusal.{Refusal}
use Rattle.refusal.specs.Refusals.{row, refusal, none, number_by}
use Rattle.outcome.specs.Told.{Values, telling}
use Rattle.shape.specs.Shape.{Shape}
use Rattle.shape.specs.Offered.{Offered}
use Rattle.curve.specs.Record.{length_in}
use Rattle.measure.specs.declared.Interval.{Interval}

-- the length of the control polygon
unfoldable pub length_answer : Offered → Values
length_answer who =
    let c = who.shape in
    let length = length_in c in
    telling (who.rules ++ (row 15 (not (finite length)) ∷ [])) (length ∷ [])

-- a length that is stored with the curve is answered as it is
abbrev pub stored_answer : Offered → Option Float → Values
stored_answer who (Some length) = telling who.rules (length ∷ [])
stored_answer who None = length_answer who

-- the first knot and the last
abbrev pub domain_of : Shape Float → List Float
domain_of c = at1 plain c.knots 0 ∷ at1 plain c.knots (c.n + 3) ∷ []

unfoldable pub domain_answer : Offered → Values
domain_answer who = telling who.rules (domain_of who.shape)

-- each case of the answer
abbrev pub interval : Result Interval Refusal → Values
interval (Ok d) = record { refusal = none; values = d.from ∷ d.to ∷ [] }
interval (Err r) = record { refusal = refusal (number_by r); values = [] }
