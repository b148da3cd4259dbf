-- `fit_partials::store_four` meets its contract: a turn stores one number and judges it.
use Rattle.meaning.specs.Table.{at1}
use Rattle.partials.specs.Dual.{dual}
use Rattle.fit_partials.specs.Stored.{Stored}
use Rattle.fit_partials.proofs.store_four.Given as goal

abbrev pub invariant-loop-k : goal.invariant-loop-k
invariant-loop-k l = Stored l.c l.at l.k (at1 dual l.four) l.initial.w l.initial.ns l.w l.ns l.fine
