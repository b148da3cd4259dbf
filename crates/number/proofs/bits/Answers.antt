-- `number::bits` meets its contract: what does not equal itself is the one NaN.
use mathlib.Core.Path.{◌≡◌, sym, subst, ap}
use mathlib.Core.Bool.{false, not}
use lib.Dec.{T}
use lib.Ieee.{Float, nan, inf, fin, binary64, eq, ne, is_nan, to_bits}
use lib.Ieee.Compare.{differs_from_itself}
use Rattle.meaning.proofs.Tests.{no}
use Rattle.number.proofs.bits.Goals as goal

number : (x : Float) → ne x x ≡ false → T (not (is_nan x))
unfolding ne eq is_nan
number nan e = no (sym e)
number (inf s) e = tt
number (fin s m k) e = tt

pub returns-then-x : goal.returns-then-x
unfolding to_bits
returns-then-x c = ap (to_bits binary64) (sym (differs_from_itself c.args.x (subst T (sym c.if-x.true) tt)))

pub float_to_bits-result : goal.float_to_bits-result
float_to_bits-result c = number c.args.x c.if-x.false
