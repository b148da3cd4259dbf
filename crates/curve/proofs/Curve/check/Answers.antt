-- `Curve::check` meets its contract.
use mathlib.Core.Path.{◌∙◌}
use Rattle.shape.proofs.With.{with_none}
use Rattle.curve.proofs.Curve.check.Goals as goal

pub returns : goal.returns
returns c = c.check_with.ensures ∙ with_none _
