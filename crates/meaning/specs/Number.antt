-- What the curve code asks of a double beside its arithmetic: the original's `abs`, `total_cmp` of two sizes and `clamp`.
-- Whether a double is finite is the kit's own `finite` of `lib.Ieee.Scale`.
use Rattle.std.specs.Prelude.{Bool, true, false, not, cond}
use lib.Ieee.{Float, nan, inf, fin, lt, is_nan}

-- the size of x: x without its sign, a zero's too
unfoldable pub size_of : Float → Float
size_of nan = nan
size_of (inf s) = inf false
size_of (fin s m e) = fin false m e

-- Whether the size of x stands before that of y in IEEE 754's totalOrder: numbers by their order, and a NaN after all of them.
unfoldable pub smaller : Float → Float → Bool
unfolding is_nan lt size_of
smaller x y = cond (is_nan x) false (cond (is_nan y) true (lt (size_of x) (size_of y)))

-- x's size is y's or stands after it: what the later of two pivots needs to be taken
abbrev pub at_least : Float → Float → Bool
at_least x y = not (smaller x y)

-- x, or the end of lo to hi that it lies past. A zero that equals an end keeps its own sign, and a NaN stays.
unfoldable pub clamp_of : Float → Float → Float → Float
unfolding lt
clamp_of x lo hi = let y = cond (lt x lo) lo x in cond (lt hi y) hi y
