-- `solve_partials::work::Cells::value_at` meets its contract: a value stands first in its cell.
use mathlib.Core.Path.{sym}
use Rattle.solve_partials.proofs.Cells.{held-value}
use Rattle.solve_partials.proofs.work.Cells.value_at.Goals as goal

pub returns : goal.returns
returns c =
    let a = c.args in
    let s = a.self.now in
    sym (held-value s.c s.w.now s.ns.now a.k c.requires)
