-- Many points searched for in one call. docs/RULES.md, "Many at once", decides: entry k is what the question for point k answers alone.
use Rattle.std.specs.Prelude.{not, List, [], ◌∷◌, ◌++◌, ℕ, ◌+◌, ◌*◌, ◌%◌, ◌≤◌, eqb, length, get_or, Float}
use Rattle.meaning.specs.Scalar.{plain}
use Rattle.meaning.specs.Table.{at1}
use Rattle.meaning.specs.Search.{listed}
use Rattle.refusal.specs.Refusals.{Row, row}
use Rattle.plane.specs.Vector.{Vector}
use Rattle.shape.specs.Shape.{points_in}
use Rattle.shape.specs.Offered.{Offered}
use Rattle.outcome.specs.Outcome.{Outcome, outcome}
use Rattle.outcome.specs.Told.{Values}
use Rattle.many.specs.Many.{room_row, Many, answering_many}
use Rattle.closest.specs.Search.{closest_answer}

-- point k of those that stand x, y in turn
abbrev pub point_at : List Float → ℕ → Vector Float
point_at points k = record { x = at1 plain points (2 * k); y = at1 plain points (2 * k + 1) }

-- what an answer leaves of a place: its values, and where it has none what stood there
abbrev pub handed_to : Values → List Float → Outcome
handed_to v place = outcome v.refusal (listed 0 (length place) (λ j. get_or v.values j (at1 plain place j)))

-- what each search leaves of its place, one number
abbrev pub each_found : Offered → List Float → ℕ → List Float → Outcome
each_found who points k place = handed_to (closest_answer who (point_at points k)) place

-- the rules of the call: no point without its y, those of the curve, room for each answer
abbrev pub many_rules : Offered → List Float → ℕ → ℕ → List Row
many_rules who points out refusals =
    row 1 (not (eqb (length points % 2) 0)) ∷ (who.rules ++ (room_row (points_in points) 1 out refusals ∷ []))

unfoldable pub closest_many : Offered → List Float → List Float → List ℕ → Many
closest_many who points out refusals =
    answering_many (many_rules who points (length out) (length refusals)) (points_in points) 1 (each_found who points) out refusals

-- room for each answer and each refusal; only a private contract asks it
pub record Room (points out : List Float) (refusals : List ℕ) : Type 0 where
  pub places : points_in points ≤ length out
  pub numbers : points_in points ≤ length refusals
