-- `hard_roots::root_of` is safe: no double is made of a NaN's pattern, and the root of a number is no NaN. Assumes nothing.
use mathlib.Core.Path.{sym, subst}
use mathlib.Core.Bool.{Bool, not}
use lib.Dec.{T}
use lib.Ieee.{Float, binary64, is_nan}
use lib.Ieee.Bits.{nan_bits_is}
use Rattle.root.proofs.Range.{root_no_nan}
use Rattle.hard_roots.proofs.root_of.Goals as goal

pub float_to_bits-result : goal.float_to_bits-result
float_to_bits-result c =
    subst (λ (y : Float). T (not (is_nan y))) (sym c.root.ensures)
    (root_no_nan _ (subst (λ (b : Bool). T (not b)) (nan_bits_is binary64 c.args.x) (subst T (sym c.requires) tt)))
