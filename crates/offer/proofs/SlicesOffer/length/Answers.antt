-- The sum over control points in turn is that over the shape.
use mathlib.Core.Path.{◌∙◌}
use Rattle.shape.proofs.Handles.{slices_accepted}
use Rattle.offer.proofs.InSlices.{turn_length}
use Rattle.offer.proofs.SlicesOffer.length.Goals as goal

pub returns-clause-sum : goal.returns-clause-sum
returns-clause-sum c = λ p. c.length_in_turn.ensures ∙ turn_length _ _ (slices_accepted _ _ p)
