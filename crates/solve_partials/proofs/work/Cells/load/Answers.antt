-- `solve_partials::work::Cells::load` meets its contract: the part that is lent is the cell.
use Prim.Native.Nat.{◌+◌, ◌*◌}
use mathlib.Core.Path.{sym, ◌∙◌}
use native.Mathlib.Omega.{arith}
use lib.Ieee.{nan}
use Rattle.cells.specs.Cell.{cell_at}
use Rattle.cells.proofs.Values.{value_same}
use Rattle.cells.proofs.Cells.{lent_at}
use Rattle.solve_partials.proofs.Cells.{held-at}
use Rattle.solve_partials.proofs.work.Cells.load.Goals as goal

pub returns : goal.returns
unfolding cell_at
returns c =
    let a = c.args in
    let s = a.self.now in
    let n = c.count-n.ensures in
    let call = c.copy.ensures in (
      call.0,
      rw (sym n) call.1,
      rw (sym n) (call.2 ∙ value_same _ _ _ (λ j h. lent_at s.w.now (a.k * (s.c + 1)) (s.c + 1) j nan (omega (arith, n))))
          ∙ sym (held-at s.c s.w.now s.ns.now a.k c.requires),
    )
