-- Rows of cells by their order: where a number of them lies. Assumes nothing.
use mathlib.Core.Path.{◌≡◌, ap, ◌∙◌}
use mathlib.Core.List.{List}
use Prim.Native.Nat.{ℕ, ◌+◌, ◌*◌, ◌≤◌, ◌<◌}
use native.Mathlib.Omega.{arith}
use lib.ListN.{length}
use lib.Ieee.{Float}
use Rattle.meaning.specs.Table.{at2}
use Rattle.partials.specs.Dual.{dual}
use Rattle.row_order.specs.Order.{place_of, Order}
use Rattle.solve.specs.Rows.{Shaped}
use Rattle.solve.specs.Placed.{rows_by}
use Rattle.solve.proofs.By.{by_each, read_by}
use Rattle.solve_partials.specs.Held.{held, at}
use Rattle.solve_partials.proofs.Cells.{held-long}
use Rattle.solve_partials.proofs.Turns.{inside}

-- the cells of a row end within the slices
pub row_within : {m : ℕ} {order : List ℕ} → Order m order → (r k n : ℕ) → r < m → k < m + 2 → n ≡ m * (m + 2) → place_of order r * (m + 2) + k < n
row_within {m = m} {order = order} o r k n h l e = omega (arith, e, inside (place_of order r) k m (m + 2) (o.within r h) l)

module _ {m : ℕ} {order : List ℕ} (o : Order m order) (c : ℕ) (w : List Float) (ns : List ℕ) (e : length ns ≡ m * (m + 2)) where
  pub held_room : m * (m + 2) ≤ length (held c w ns)
  held_room = omega (arith, held-long c w ns, e)

  pub cells_shaped : Shaped m (m + 2) (rows_by m order (held c w ns))
  cells_shaped = by_each o (held c w ns) held_room

  -- number k of row r
  pub at_by : (r k i : ℕ) → r < m → k < m + 2 → i ≡ place_of order r * (m + 2) + k → at c w ns i ≡ at2 dual (rows_by m order (held c w ns)) r k
  at_by r k i h l q = ap (at c w ns) q ∙ read_by o (held c w ns) held_room r h k l dual.off
