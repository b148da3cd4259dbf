-- `Search::sample_pair` meets its contract: all of the pair's samples, or none.
use Rattle.closest.specs.Sampling.{through}
use Rattle.closest.proofs.Search.sample_pair.Goals as goal

pub returns : goal.returns
unfolding through
returns c = rw c.if-knots-i.false
