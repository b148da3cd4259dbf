-- `solve::work::PlainRows::find_pivot` meets its contract: best is the best of the rows passed, and top is its number.
use Prim.Native.Nat.{◌+◌, ◌≤◌, ◌<◌}
use mathlib.Core.Path.{◌≡◌}
use Rattle.meaning.specs.Scalar.{plain}
use Rattle.meaning.specs.Table.{at2}
use Rattle.meaning.proofs.For.{At}
use Rattle.solve.specs.Placed.{rows_by}
use Rattle.solve.specs.Best.{better}
use Rattle.solve.proofs.work.PlainRows.find_pivot.Given as goal

abbrev pub invariant-loop-r : goal.invariant-loop-r
invariant-loop-r l =
    let s = l.self in
    let M = rows_by s.order.rows s.order.places s.w.now in
    (l.col ≤ l.best) × (l.best < l.r) × (l.top ≡ at2 plain M l.best l.col) × At (l.col + 1) l.m (better plain M l.col) l.col l.r l.best
