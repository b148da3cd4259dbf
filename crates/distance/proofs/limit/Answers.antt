-- `distance::limit` meets its contract.
use mathlib.Core.Path.{◌≡◌}
use mathlib.Core.Bool.{true, false}
use lib.Ieee.{Float, lt, nan_bits}
use Rattle.distance_rule.specs.Squares.{plain_from, limit_of}
use Rattle.distance.proofs.limit.Goals as goal

small : (s : Float) → lt s plain_from ≡ true → plain_from ≡ limit_of s
unfolding limit_of
small s h = rw h

not_small : (s : Float) → lt s plain_from ≡ false → s ≡ limit_of s
unfolding limit_of
not_small s h = rw h

pub float_from_bits-least : goal.float_from_bits-least
unfolding nan_bits
float_from_bits-least c = tt

pub returns-then-s-least : goal.returns-then-s-least
returns-then-s-least c = small c.args.s c.if-s-least.true

pub returns : goal.returns
returns c = not_small c.args.s c.if-s-least.false
