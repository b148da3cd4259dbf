-- One control point of a record moved. docs/RULES.md, "Moving a control point", decides.
use Rattle.std.specs.Prelude.{Bool, not, ◌||◌, cond, List, [], ◌∷◌, ◌++◌, ℕ, ltb, length, set, Float}
use Rattle.std.specs.Float.Ieee.Scale.{finite}
use Rattle.meaning.specs.Scalar.{plain}
use Rattle.refusal.specs.Refusals.{Verdict, Row, row, first_of, passes}
use Rattle.outcome.specs.Outcome.{either_wild, answering}
use Rattle.shape.specs.Offered.{with11}
use Rattle.polygon.specs.Polygon.{length_of}
use Rattle.curve.specs.declared.Curve.{Curve}
use Rattle.curve.specs.Record.{by_record}
use Rattle.curve.specs.Build.{Built, building}

-- the curve with control point i at (x, y): that point and the length are new, and all else is as it was
abbrev pub moved : Curve → ℕ → Float → Float → Curve
moved c i x y =
    let xs = set c.xs i x in
    let ys = set c.ys i y in
    record {
      points = c.points;
      knot_count = c.knot_count;
      length = length_of plain xs ys c.points;
      xs = xs;
      ys = ys;
      knots = c.knots;
    }

-- The record's rules, with 11 for the moved point; 17 for the index; then that no lent slice is short, and that the new length is finite.
unfoldable pub move_rules : Curve → ℕ → Float → Float → Bool → List Row
move_rules c i x y short =
    with11 (either_wild x y) (by_record c).rules
    ++ (row 17 (not (ltb i c.points)) ∷ row 14 short ∷ row 15 (not (finite (moved c i x y).length)) ∷ [])

-- what a move answers, where `short` tells whether a lent slice is
abbrev pub moved_by : Curve → ℕ → Float → Float → Bool → Built
moved_by c i x y short = building (move_rules c i x y short) (moved c i x y)

-- ---- answered in two slices, x and y apart, and a number

-- the refusal, and what was lent afterwards
pub record MovedOut : Type 0 where
  pub refusal : Verdict
  pub xs : List Float
  pub ys : List Float
  pub length : Float

abbrev pub moved_out : Verdict → List Float → List Float → Float → MovedOut
moved_out r xs ys l = record { refusal = r; xs = xs; ys = ys; length = l }

-- one of the two has not room for every control point
abbrev pub lacks_room : Curve → List Float → List Float → Bool
lacks_room c xs ys = ltb (length xs) c.points || ltb (length ys) c.points

abbrev pub moved_into : Curve → ℕ → Float → Float → List Float → List Float → Float → MovedOut
moved_into c i x y xs ys l =
    let rules = move_rules c i x y (lacks_room c xs ys) in
    let m = moved c i x y in
    moved_out (first_of rules) (answering rules m.xs c.points xs).out (answering rules m.ys c.points ys).out (cond (passes rules) m.length l)
