-- `cells::put_cell` meets its contract: the part that comes back is the cell.
use mathlib.Core.Path.{ap}
use Prim.Native.Nat.{ℕ, ◌+◌, ◌*◌}
use lib.ListN.{set}
use Rattle.cells.specs.Cell.{doubles_of}
use Rattle.cells.proofs.Cells.{back_paste, doubles-long}
use Rattle.cells.proofs.put_cell.Goals as goal

pub returns : goal.returns
returns c =
    let a = c.args in (
      rw c.write_cell.ensures (back_paste a.w.now (doubles_of a.c a.d) (a.k * (a.c + 1)) (a.c + 1) (doubles-long a.c a.d)),
      ap (λ (n : ℕ). set a.ns.now a.k n) c.min-n.ensures,
    )
