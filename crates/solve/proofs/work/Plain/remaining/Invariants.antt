-- `solve::work::Plain::remaining` meets its contract: the terms of the rows passed are taken off.
use mathlib.Core.Path.{◌≡◌}
use Prim.Native.Nat.{◌+◌, ◌-◌}
use Rattle.meaning.specs.Scalar.{plain}
use Rattle.solve.specs.Placed.{rows_by}
use Rattle.solve.specs.Substitution.{remains}
use Rattle.solve.proofs.work.Plain.remaining.Given as goal

abbrev pub invariant-loop-below : goal.invariant-loop-below
invariant-loop-below l =
    let s = l.self in
    l.acc ≡ remains plain (rows_by s.order.rows s.order.places s.w.now) l.r l.c l.r (l.below - (l.r + 1))
