-- `samples::sample_pair` meets its contract: a turn puts in one sample.
use lib.ListN.{length}
use lib.Ieee.{nan}
use Rattle.meaning.proofs.Filling.{Filled}
use Rattle.samples.specs.Samples.{sample_at}
use Rattle.samples.proofs.sample_pair.Given as goal

abbrev pub invariant-loop-s : goal.invariant-loop-s
invariant-loop-s l = Filled (sample_at l.w0 l.w1 (length l.initial.room)) nan (length l.initial.room) l.s l.room
