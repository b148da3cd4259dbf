-- `sheet_text::take_numbers` meets its contract: a turn puts in one number.
use lib.ListN.{length}
use lib.Ieee.{nan}
use Rattle.meaning.proofs.Filling.{Filled}
use Rattle.sheet_read.specs.Number.{double_at}
use Rattle.sheet_read.specs.Grammar.{number_place}
use Rattle.sheet_text.proofs.take_numbers.Given as goal

abbrev pub invariant-loop-j : goal.invariant-loop-j
invariant-loop-j l = Filled (λ k. double_at l.s (number_place l.start k)) nan (length l.initial.out) l.j l.out
