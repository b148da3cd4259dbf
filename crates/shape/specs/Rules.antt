-- The rules for a curve's shape and for handles. docs/RULES.md, "Refusals", decides.
use Rattle.std.specs.Prelude.{Bool, true, not, ◌||◌, cond, List, [], ◌∷◌, ◌++◌, ℕ, ◌%◌, length, take, leb, eqb, Float}
use Rattle.refusal.specs.Refusals.{Row, row}
use Rattle.knots.specs.declared.Form.{Form}
use Rattle.knots.specs.declared.Form.TheVariants.{Control}
use Rattle.knots.specs.Rules.{knot_rules}
use Rattle.outcome.specs.Outcome.{some_wild}
use Rattle.shape.specs.Shape.{Shape, points_in}

-- the first k knots; a count that there is no room for leaves none, which rule 6 refuses
abbrev pub counted_knots : ℕ → List Float → List Float
counted_knots k ks = cond (leb k (length ks)) (take k ks) []

-- the rules 2 to 11 for a shape that counts k knots
unfoldable pub shape_rules : ℕ → Shape Float → List Row
shape_rules k s =
    knot_rules Control s.n true (counted_knots k s.knots)
    ++ (row 11 (some_wild s.xs s.n || some_wild s.ys s.n) ∷ [])

-- the rules 1 to 11 for handles x, y in turn, and for knots, if any are given
unfoldable pub handle_rules : Form → List Float → Bool → List Float → List Row
handle_rules form coords given ks =
    row 1 (not (eqb (length coords % 2) 0))
    ∷ (knot_rules form (points_in coords) given ks ++ (row 11 (some_wild coords (length coords)) ∷ []))
