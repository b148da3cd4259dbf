-- A curve's numbers in the rooms of a record, filled from slices. docs/RULES.md, "Record" and "Uniform knots", decides.
use Rattle.std.specs.Prelude.{Bool, cond, List, ℕ, Float}
use Rattle.uniform.specs.Uniform.{uniform_of}
use Rattle.shape.specs.Shape.{Shape, points_in, every_other, given_knots}
use Rattle.rooms.specs.declared.Rooms.{Rooms}

-- the knots of n control points in their room of 70: those given, or the uniform ones
abbrev pub stored_knots : ℕ → Bool → List Float → List Float
stored_knots n given ks = cond given (given_knots n ks) (uniform_of n)

-- control points x, y in turn, and their knots
abbrev pub rooms_of : List Float → Bool → List Float → Rooms
rooms_of coords given ks =
    let n = points_in coords in
    record { points = n; xs = every_other coords n 0; ys = every_other coords n 1; knots = stored_knots n given ks }

-- the curve that they are the numbers of
abbrev pub roomed : Rooms → Shape Float
roomed r = record { n = r.points; xs = r.xs; ys = r.ys; knots = r.knots }
