-- A curve from control points. docs/RULES.md, "Refusals", decides.
use Rattle.std.specs.Prelude.{Bool, not, List, Float}
use Rattle.outcome.specs.Outcome.{some_wild}
use Rattle.shape.specs.Shape.{points_in}
use Rattle.rooms.specs.Filled.{stored_knots}

-- every number that is stored beside the length is finite: rule 11 has judged the coordinates, so the knots are left
abbrev pub control_fine : List Float → Bool → List Float → Bool
control_fine coords given ks = not (some_wild (stored_knots (points_in coords) given ks) 70)
