-- The length of a record that its rules let through is the sum.
use Rattle.curve.proofs.Recheck.{length_is}
use Rattle.offer.proofs.CurveOffer.length.Goals as goal

pub returns-clause-sum : goal.returns-clause-sum
returns-clause-sum c = λ p. length_is c.args.self.now c.has_doubles.ensures.parameter p
