-- `point::answer_tangent` meets its contract: the test of the parameter, then the numbers delivered.
use mathlib.Core.Path.{◌≡◌, refl, ap}
use mathlib.Core.List.{List, [], ◌∷◌}
use lib.Ieee.{Float}
use Rattle.meaning.specs.Scalar.{plain}
use Rattle.meaning.specs.Table.{at1}
use Rattle.outcome.proofs.Doors.{leaves, stop, pass, delivered_as, not_told}
use Rattle.point.specs.Point.{unit_in}
use mathlib.Core.Bool.{not}
use Rattle.point.proofs.answer_tangent.Goals as goal
use Rattle.point.proofs.answer_tangent.Goals.{After-unit-unit}

abbrev room_of : After-unit-unit → List Float
room_of c = c.args.room.now

abbrev four-of : After-unit-unit → List Float
four-of c = at1 plain (room_of c) 0 ∷ at1 plain (room_of c) 1 ∷ c.unit-unit.result.x ∷ c.unit-unit.result.y ∷ []

four_are : (c : After-unit-unit) → four-of c ≡ unit_in (room_of c)
four_are c = λ i. at1 plain (room_of c) 0 ∷ at1 plain (room_of c) 1 ∷ (c.unit-unit.ensures i).x ∷ (c.unit-unit.ensures i).y ∷ []

pub returns-then-not-is_finite : goal.returns-then-not-is_finite
returns-then-not-is_finite c = leaves (stop 11 refl (not_told c.is_finite.ensures (ap not c.if-not-is_finite.true)))

pub returns : goal.returns
returns c =
    leaves (pass 12 (not_told c.is_finite.ensures (ap not c.if-not-is_finite.false)) (delivered_as 4 c.args.out.now (four_are (goal.at.returns c).After-unit-unit) c.deliver.ensures))
