-- `check` meets its contract: a point that is fine changes nothing.
use mathlib.Core.Path.{◌∙◌}
use Rattle.shape.proofs.With.{with_none}
use Rattle.offer.proofs.Offer.check.Goals as goal

pub returns-clause-rules : goal.returns-clause-rules
returns-clause-rules g c = c.check_with.ensures.rules ∙ with_none _
