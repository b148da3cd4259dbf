-- Inner: what the code finds past an end of the domain: that end, and then a point, a tangent, and zeros. Only private contracts cite this.
use Rattle.std.specs.Prelude.{cond, Option, None, Some, ℕ, zero, suc, Float}
use Rattle.std.specs.Float.Ieee.{lt}
use Rattle.meaning.specs.Scalar.{zero64}
use Rattle.plane.specs.Vector.{Vector}

unfoldable pub straight_of : Vector Float → Vector Float → ℕ → Vector Float
straight_of p d zero = p
straight_of p d (suc zero) = d
straight_of p d (suc (suc k)) = record { x = zero64; y = zero64 }

-- the end past which t lies, of a domain from lo to hi
abbrev pub end_past : Float → Float → Float → Option Float
end_past lo hi t = cond (lt t lo) (Some lo) (cond (lt hi t) (Some hi) None)
