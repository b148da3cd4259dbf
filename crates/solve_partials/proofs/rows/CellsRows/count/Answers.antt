-- `solve_partials::rows::CellsRows::count` meets its contract.
use mathlib.Core.Path.{sym}
use Rattle.solve.proofs.By.{by_long}
use Rattle.solve_partials.specs.Held.{held}
use Rattle.solve_partials.proofs.Places.{cells_shaped}
use Rattle.solve_partials.proofs.rows.CellsRows.count.Goals as goal

pub returns : goal.returns
returns c =
    let s = c.args.self.now in
    record {
      count = sym (by_long s.order.rows s.order.places (held s.c s.w.now s.ns.now));
      shape = cells_shaped s.order.permutes s.c s.w.now s.ns.now s.whole;
    }
