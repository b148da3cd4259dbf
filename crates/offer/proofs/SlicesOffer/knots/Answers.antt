-- The knots of slices that their rules let through are as many as they should be.
use mathlib.Core.Path.{sym}
use Rattle.shape.proofs.Handles.{given_front, slices_accepted}
use Rattle.offer.proofs.SlicesOffer.knots.Goals as goal

pub returns : goal.returns
returns c = λ p. let a = slices_accepted _ _ p in sym (given_front _ _ a.sound.long a.room)
