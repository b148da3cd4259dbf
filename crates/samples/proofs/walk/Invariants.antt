-- `samples::walk` meets its contract: a turn adds the samples of one pair.
use lib.ListN.{length}
use Rattle.samples.proofs.Sampled.{Sampled}
use Rattle.samples.proofs.walk.Given as goal

abbrev pub invariant-loop-w0 : goal.invariant-loop-w0
invariant-loop-w0 l = Sampled l.knots l.per l.initial.room (length l.yielded) l.at l.room
