-- `fit::System::set` meets its contract: each case of the definition.
use borrow.Author.Tests.{eq-eqb, ne_eqb, le-leb, lt-leb}
use Rattle.fit.specs.System.{fit_row}
use Rattle.fit.specs.Stored.{found_row, found_fit_row}
use Rattle.fit.proofs.System.set.Goals as goal

pub returns-then-r-eq0 : goal.returns-then-r-eq0
unfolding found_fit_row fit_row found_row
returns-then-r-eq0 c = rw (eq-eqb _ _ c.if-r-eq0.true) c.set_row.ensures

pub returns-then-r-n : goal.returns-then-r-n
unfolding found_fit_row fit_row found_row
returns-then-r-n c =
    rw (ne_eqb _ _ c.if-r-eq0.false, le-leb _ _ c.if-r-n.true) (rw c.point.ensures at c.set_row-then-r-n.ensures)

pub returns : goal.returns
unfolding found_fit_row fit_row found_row
returns c = rw (ne_eqb _ _ c.if-r-eq0.false, lt-leb _ _ c.if-r-n.false) c.set_row-2.ensures
