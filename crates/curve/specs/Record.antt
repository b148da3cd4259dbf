-- The curve record. docs/RULES.md, "Record", decides.
use Rattle.std.specs.Prelude.{Bool, not, ◌&&◌, List, [], ◌∷◌, ◌++◌, ℕ, ◌+◌, eqb, replicate, Float}
use Rattle.std.specs.Float.{binary64}
use Rattle.std.specs.Float.Ieee.{to_bits}
use Rattle.std.specs.Float.Ieee.Scale.{finite}
use Rattle.meaning.specs.Scalar.{plain, zero64}
use Rattle.refusal.specs.Refusals.{Row, row}
use Rattle.shape.specs.Shape.{Shape}
use Rattle.shape.specs.Rules.{shape_rules}
use Rattle.shape.specs.Offered.{Offered}
use Rattle.polygon.specs.Polygon.{length_of}
use Rattle.curve.specs.declared.Curve.{Curve}

-- ---- the length of the control polygon, which a record stores

-- summed afresh
abbrev pub length_in : Shape Float → Float
length_in s = length_of plain s.xs s.ys s.n

-- What is stored is finite and has the bits of that sum. Equality is of bits, not of numbers: -0.0 is not +0.0.
abbrev pub is_sum : Float → Float → Bool
is_sum length sum = finite length && eqb (to_bits binary64 length) (to_bits binary64 sum)

-- ---- the record

abbrev pub shape_in : Curve → Shape Float
shape_in c = record { n = c.points; xs = c.xs; ys = c.ys; knots = c.knots }

-- the rules 2 to 11 for a shape that counts k knots, then 17 for the length beside it
unfoldable pub record_rules : ℕ → Shape Float → Float → List Row
record_rules k s length = shape_rules k s ++ (row 17 (not (is_sum length (length_in s))) ∷ [])

-- a record as it is offered: checked again by every question
abbrev pub by_record : Curve → Offered
by_record c = record { rules = record_rules c.knot_count (shape_in c) c.length; shape = shape_in c }

-- its counts are 0, its length and all its entries +0.0
abbrev pub empty_curve : Curve
empty_curve =
    record {
      points = 0;
      knot_count = 0;
      length = zero64;
      xs = replicate 66 zero64;
      ys = replicate 66 zero64;
      knots = replicate 70 zero64;
    }

-- m control points with knots us
abbrev pub curve_over : ℕ → List Float → List Float → List Float → Curve
curve_over m us xs ys = record { points = m; knot_count = m + 4; length = length_of plain xs ys m; xs = xs; ys = ys; knots = us }
