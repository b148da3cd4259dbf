-- `outcome::either_wild` meets its contract.
use mathlib.Core.Path.{◌∙◌}
use mathlib.Core.Bool.{not, ◌||◌}
use Rattle.outcome.proofs.either_wild.Goals as goal

pub returns : goal.returns
returns c = c.either.ensures ∙ (λ i. not (c.is_finite.ensures i) || not (c.is_finite-2.ensures i))
