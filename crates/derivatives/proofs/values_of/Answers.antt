-- `derivatives::values_of` meets its contract.
use Rattle.basis.specs.Basis.{values_of}
use Rattle.meaning.specs.Loops.{turns}
use Rattle.derivatives.proofs.values_of.Goals as goal

pub returns : goal.returns
unfolding values_of turns
returns g c = rw (c.cst-zeros.ensures, c.entry-4.ensures, c.entry-3.ensures, c.entry-2.ensures, c.entry.ensures)
