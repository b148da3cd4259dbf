-- The square of a distance, with nothing scaled: what a search asks first, and by its root the rule before, which the laws compare with.
use Rattle.std.specs.Prelude.{cond, Float}
use Rattle.std.specs.Float.{binary64}
use Rattle.std.specs.Float.Ieee.{lt, of_bits}
use Rattle.meaning.specs.Scalar.{plain}
use Rattle.plane.specs.Vector.{Vector, sub_v, dot_v}

unfoldable pub square_of : Vector Float → Vector Float → Float
square_of a b = let d = sub_v plain a b in dot_v plain d d

-- the rule before
unfoldable pub unscaled_of : Vector Float → Vector Float → Float
unfolding square_of
unscaled_of a b = plain.root (square_of a b)

-- From this square on, 2 ^ -967, a distance is the root of its square as long as that is finite.
abbrev pub plain_from : Float
plain_from = of_bits binary64 0x0380_0000_0000_0000

-- The square from which on no distance is less than the one with the square s: s, or where s is too small to tell, the one above.
unfoldable pub limit_of : Float → Float
limit_of s = cond (lt s plain_from) plain_from s
