-- The count of slices that their rules let through is right, so that their orders are those of the shape.
use mathlib.Core.Path.{◌∙◌}
use Rattle.offer.proofs.InSlices.{slices_found}
use Rattle.offer.proofs.SlicesOffer.orders.Goals as goal

pub returns : goal.returns
returns c = λ p. c.orders_slices.ensures ∙ slices_found _ _ p c.args.t c.args.nd
