-- `cells::get_cell` meets its contract: the part that is lent is the cell.
use mathlib.Core.Path.{◌≡◌, sym, ap, ◌∙◌}
use Prim.Native.Nat.{ℕ, ◌+◌, ◌*◌, min}
use native.Mathlib.Omega.{arith}
use lib.ListN.{get_or}
use Rattle.cells.specs.Cell.{cell_at}
use Rattle.cells.proofs.Values.{value_same}
use Rattle.cells.proofs.Cells.{lent_at}
use lib.Ieee.{nan}
use Rattle.cells.proofs.get_cell.Goals as goal

pub returns : goal.returns
unfolding cell_at
returns c =
    let a = c.args in
    let e : c.min-n.result ≡ min (get_or a.ns.now a.k 0) a.c =
    c.min-n.ensures ∙ ap (λ (n : ℕ). min n a.c) c.from.ensures in
    rw (sym e)
    (c.read_cell.ensures
    ∙ value_same _ _ _ (λ j h. lent_at a.w.now (a.k * (a.c + 1)) (a.c + 1) j nan (omega (arith, c.min-n.ensures))))
