-- `solve_partials::cell::less_product` meets its contract: from the partials below j those of the product are taken off.
use Prim.Native.Nat.{◌≤◌}
use mathlib.Core.Path.{◌≡◌}
use lib.ListN.{length}
use lib.Ieee.{nan}
use Rattle.solve_partials.specs.Sweep.{Swept}
use Rattle.solve_partials.specs.Held.{numbered, less_product}
use Rattle.solve_partials.proofs.cell.less_product.Given as goal

abbrev pub invariant-loop-j : goal.invariant-loop-j
invariant-loop-j l =
    Swept (less_product l.initial.t l.a l.b) nan 1 l.j l.initial.t l.t × (l.x ≡ numbered l.a 0) × (l.y ≡ numbered l.b 0) × (1 ≤ l.j) × (l.j ≤ l.end) × (length l.t ≡ length l.initial.t)
