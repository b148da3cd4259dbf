-- `solve::work::PlainRows::exchange` meets its contract: the order is exchanged, and nothing moves.
use mathlib.Core.Path.{refl, sym, ap, ◌∙◌}
use Prim.Native.Nat.{ℕ, ◌+◌, ◌*◌}
use lib.ListN.{drop}
use Rattle.solve.proofs.By.{by_long, turned_by}
use Rattle.solve.proofs.work.PlainRows.exchange.Goals as goal

pub returns : goal.returns
returns c =
    let a = c.args in
    let s = a.self.now in
    let e = c.exchange.ensures in
    let t = c.exchange.new.self in
    record {
      rows = turned_by s.order.permutes s.w.now s.room a.i a.j e.rows e.places;
      same = (
        by_long t.rows t.places s.w.now ∙ e.rows ∙ sym (by_long s.order.rows s.order.places s.w.now),
        refl,
        (e.rows, ap (λ (m : ℕ). drop (m * (m + 2)) s.w.now) e.rows),
      );
    }
