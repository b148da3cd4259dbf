-- `solve_partials::rows::CellsRows::exchange` meets its contract: the order is exchanged, and nothing moves.
use mathlib.Core.Path.{refl, sym, ◌∙◌}
use Rattle.solve.proofs.By.{by_long, turned_by}
use Rattle.solve_partials.specs.Held.{held}
use Rattle.solve_partials.proofs.Places.{held_room}
use Rattle.solve_partials.proofs.rows.CellsRows.exchange.Goals as goal

pub returns : goal.returns
returns c =
    let a = c.args in
    let s = a.self.now in
    let e = c.exchange.ensures in
    let t = c.exchange.new.self in
    let H = held s.c s.w.now s.ns.now in
    record {
      rows = turned_by s.order.permutes H (held_room s.order.permutes s.c s.w.now s.ns.now s.whole) a.i a.j e.rows e.places;
      same = (by_long t.rows t.places H ∙ e.rows ∙ sym (by_long s.order.rows s.order.places H), refl, refl, refl, e.rows);
    }
