-- `solve::work::Plain::column` meets its contract: the numbers of the rows passed are copied.
use mathlib.Core.Path.{◌≡◌}
use lib.Ieee.{nan}
use Rattle.meaning.specs.Scalar.{plain}
use Rattle.meaning.specs.Table.{at2}
use Rattle.meaning.proofs.Filling.{Filled}
use Rattle.solve.specs.Placed.{rows_by}
use Rattle.solve.proofs.work.Plain.column.Given as goal

abbrev pub invariant-loop-r : goal.invariant-loop-r
invariant-loop-r l =
    let s = l.self in
    let m = s.order.rows in
    Filled (λ r. at2 plain (rows_by m s.order.places s.w.now) r l.c) nan m l.r l.front × (l.r-end ≡ m)
