-- `curve::is_sum` meets its contract.
use mathlib.Core.Path.{◌∙◌}
use mathlib.Core.Bool.{◌&&◌}
use lib.Dec.{eqb}
use Rattle.curve.proofs.is_sum.Goals as goal

pub returns : goal.returns
returns c =
    c.both.ensures ∙ (λ i. c.is_finite.ensures i && eqb (c.bits.ensures i) (c.bits-2.ensures i))
