-- Inner: the size of a double but for a minus zero, which stays as it is.
use Rattle.std.specs.Prelude.{cond, Float}
use Rattle.std.specs.Float.Ieee.{lt, neg}
use Rattle.meaning.specs.Scalar.{zero64}

abbrev pub magnitude_of : Float → Float
magnitude_of x = cond (lt x zero64) (neg x) x
