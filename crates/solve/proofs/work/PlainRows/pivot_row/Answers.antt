-- `solve::work::PlainRows::pivot_row` meets its contract: the part that is copied is the row.
use mathlib.Core.Path.{◌≡◌, ap, ◌∙◌}
use mathlib.Core.List.{[]}
use Prim.Native.Nat.{◌+◌, ◌-◌}
use native.Mathlib.Omega.{arith}
use lib.ListN.{length, get_or, take, drop}
use lib.Seq.{take_at}
use Rattle.solve.specs.Placed.{rows_by}
use Rattle.solve.proofs.By.{by_long, by_each, lent_by}
use Rattle.solve.proofs.work.PlainRows.pivot_row.Goals as goal

pub returns-then-col-m : goal.returns-then-col-m
returns-then-col-m c =
    let a = c.args in
    let s = a.self.now in
    let m = s.order.rows in
    let p = c.start-a.result in
    let M = rows_by m s.order.places s.w.now in
    let row : take (p + (m + 2) - p) (drop p s.w.now) ≡ get_or M a.col [] =
    lent_by s.order.permutes s.w.now s.room a.col c.if-col-m.true p c.start-a.ensures.value in
    let copied : c.copy_from_slice.new.self ≡ get_or M a.col [] = c.copy_from_slice.ensures.after ∙ row in
    let len : length c.copy_from_slice.new.self ≡ m + 2 = ap length copied ∙ (by_each s.order.permutes s.w.now s.room).each a.col c.if-col-m.true in
    λ h. take_at c.copy_from_slice.new.self _ (m + 2) len ∙ copied

pub returns-else-col-m : goal.returns-else-col-m
returns-else-col-m c =
    let s = c.args.self.now in
    λ h. absurd (omega (arith, h, c.if-col-m.false, by_long s.order.rows s.order.places s.w.now))
