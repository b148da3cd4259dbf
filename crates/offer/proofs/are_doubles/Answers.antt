use Rattle.offer.proofs.are_doubles.Goals as goal

pub returns : goal.returns
returns c = λ i h. c.type_inv.a i
