-- A curve whose numbers stand in the rooms of a record, as the code lends it, in the words of `Shape` and `Offered`.
use Rattle.std.specs.Prelude.{ℕ, Float}
use Rattle.shape.specs.declared.Spline.{Spline}
use Rattle.shape.specs.Shape.{Shape}
use Rattle.shape.specs.Offered.{Offered, in_rooms}
use Rattle.shape.specs.Trusting.{trusting}

-- its shape
abbrev pub shape_of : Spline → Shape Float
shape_of s = record { n = s.n; xs = s.xs.now; ys = s.ys.now; knots = s.knots.now }

-- held to the rules, with its count of knots
abbrev pub in_spline : ℕ → Spline → Offered
in_spline k s = in_rooms s.n k s.xs.now s.ys.now s.knots.now

-- Inner: past the rules, of which private contracts speak
abbrev pub trusted_spline : Spline → Offered
trusted_spline s = trusting s.n s.xs.now s.ys.now s.knots.now
