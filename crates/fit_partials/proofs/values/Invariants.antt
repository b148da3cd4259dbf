-- `fit_partials::values` meets its contract: a turn stores one value.
use Rattle.std.specs.Float.{nan}
use Rattle.meaning.specs.Table.{at1}
use Rattle.meaning.proofs.Filling.{Filled}
use Rattle.partials.specs.Dual.{dual}
use Rattle.fit_partials.proofs.values.Given as goal

abbrev pub invariant-loop-j : goal.invariant-loop-j
invariant-loop-j l = Filled (λ i. (at1 dual l.k i).v) nan 18 l.j l.u-items
