-- `solve_partials::rows::CellsRows::find_pivot` meets its contract: best is the best of the rows passed, and top is its number.
use Prim.Native.Nat.{◌+◌, ◌≤◌, ◌<◌}
use mathlib.Core.Path.{◌≡◌}
use Rattle.partials.specs.Dual.{dual}
use Rattle.meaning.specs.Table.{at2}
use Rattle.meaning.proofs.For.{At}
use Rattle.solve.specs.Placed.{rows_by}
use Rattle.solve.specs.Best.{better}
use Rattle.solve_partials.specs.Held.{held}
use Rattle.solve_partials.proofs.rows.CellsRows.find_pivot.Given as goal

abbrev pub invariant-loop-r : goal.invariant-loop-r
invariant-loop-r l =
    let s = l.self in
    let M = rows_by s.order.rows s.order.places (held s.c s.w.now s.ns.now) in
    (l.col ≤ l.best) × (l.best < l.r) × (l.top ≡ (at2 dual M l.best l.col).v) × At (l.col + 1) l.m (better dual M l.col) l.col l.r l.best
