-- `hard_roots::is_number` meets its contract: a NaN's pattern is one that lies above the infinity's, but for the sign. Assumes nothing.
use mathlib.Core.Path.{sym, ap}
use mathlib.Core.Bool.{not}
use lib.Ieee.{binary64}
use lib.Ieee.Bits.{nan_bits_above}
use Rattle.hard_roots.proofs.is_number.Goals as goal

pub returns : goal.returns
returns c = ap not (sym (nan_bits_above binary64 c.args.bits))
