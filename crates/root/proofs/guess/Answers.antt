-- `root::guess` meets its contract: no NaN is read or written as a pattern, since both patterns are below the infinity's and z was compared.
-- That the guess is good is neither said nor needed. Assumes nothing.
use native.Mathlib.Omega.{arith}
use Rattle.root.proofs.NoNan.{no_nan, lower_no_nan}
use Rattle.root.proofs.guess.Goals as goal

pub float_from_bits-f : goal.float_from_bits-f
float_from_bits-f c = no_nan _ c.requires

pub float_from_bits-y0 : goal.float_from_bits-y0
float_from_bits-y0 c = no_nan _ (omega arith)

pub float_to_bits-result : goal.float_to_bits-result
float_to_bits-result c = lower_no_nan _ _ c.if-z.true
