-- `solve::work::PlainRows::count` meets its contract.
use mathlib.Core.Path.{sym}
use Rattle.solve.proofs.By.{by_long, by_each}
use Rattle.solve.proofs.work.PlainRows.count.Goals as goal

pub returns : goal.returns
returns c =
    let s = c.args.self.now in
    record {
      count = sym (by_long s.order.rows s.order.places s.w.now);
      shape = by_each s.order.permutes s.w.now s.room;
    }
