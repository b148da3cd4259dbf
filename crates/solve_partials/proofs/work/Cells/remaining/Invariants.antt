-- `solve_partials::work::Cells::remaining` meets its contract: the terms of the rows passed are taken off.
use Prim.Native.Nat.{◌+◌, ◌-◌, ◌≤◌}
use mathlib.Core.Path.{◌≡◌}
use Rattle.partials.specs.Dual.{dual}
use Rattle.solve.specs.Placed.{rows_by}
use Rattle.solve.specs.Substitution.{remains}
use Rattle.solve_partials.specs.Held.{held, valued}
use Rattle.solve_partials.proofs.work.Cells.remaining.Given as goal

abbrev pub invariant-loop-below : goal.invariant-loop-below
invariant-loop-below l =
    let s = l.self in
    let M = rows_by s.order.rows s.order.places (held s.c s.w.now s.ns.now) in
    (l.n ≤ s.c) × (valued l.acc l.n ≡ remains dual M l.r l.b l.r (l.below - (l.r + 1)))
