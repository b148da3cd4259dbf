-- The numbers of a record are doubles by its type.
use Rattle.offer.proofs.CurveOffer.check_with.Goals as goal

pub returns-clause-doubles : goal.returns-clause-doubles
returns-clause-doubles c = λ p. let d = c.has_doubles.ensures in record { knots = d.knots; xs = d.xs; ys = d.ys }
