-- `solve_partials::rows::CellsRows::answer` meets its contract: each answer is worked out from the rows as they were, and then both are stored.
use Prim.Native.Nat.{ℕ, ◌+◌, ◌-◌, ◌*◌, ◌<◌}
use native.Mathlib.Omega.{arith}
use mathlib.Core.Path.{◌≡◌, sym, ap, subst, ◌∙◌}
use mathlib.Core.Bool.{◌&&◌}
use mathlib.Core.List.{[]}
use lib.ListN.{get_or, set}
use Rattle.partials.specs.Dual.{dual, fine_dv}
use Rattle.row_order.specs.Order.{place_of}
use Rattle.row_order.specs.declared.RowOrder.{RowOrder}
use Rattle.solve.specs.Left.{Becomes}
use Rattle.solve.specs.Placed.{rows_by}
use Rattle.solve.specs.Substitution.{answer, answered, answered_up}
use Rattle.solve.specs.Verdicts.{answered_ok, answered_up_ok}
use Rattle.solve.proofs.By.{by_long, write_by}
use Rattle.solve_partials.specs.Held.{held}
use Rattle.solve_partials.proofs.Places.{row_within, held_room}
use Rattle.solve_partials.proofs.rows.CellsRows.answer.Goals as goal

pub returns-then-i-m-clause-rows : goal.returns-then-i-m-clause-rows
returns-then-i-m-clause-rows c =
    let s = c.args.self.now in
    λ h. absurd (omega (arith, h, c.if-i-m.true, by_long s.order.rows s.order.places (held s.c s.w.now s.ns.now)))

pub put_two-requires : goal.put_two-requires
put_two-requires c =
    let a = c.args in
    let s = a.self.now in
    let m = s.order.rows in
    let r = m - 1 - a.i in
    let h : r < m = omega (arith, c.if-i-m.false) in (
      omega (arith, c.cell-base.ensures.value, row_within s.order.permutes r m _ h (omega arith) s.whole),
      omega (arith, c.cell-base.ensures.value, row_within s.order.permutes r (m + 1) _ h (omega arith) s.whole),
      c.answer_of-x.ensures.0,
      c.answer_of-y.ensures.0,
    )

pub returns-clause-rows : goal.returns-clause-rows
unfolding answered answered_ok
returns-clause-rows c =
    let a = c.args in
    let s = a.self.now in
    let m = s.order.rows in
    let H = held s.c s.w.now s.ns.now in
    let M = rows_by m s.order.places H in
    let r = m - 1 - a.i in
    let h : r < m = omega (arith, c.if-i-m.false) in
    let e : m - 1 - r ≡ a.i = omega (arith, c.if-i-m.false) in
    let x : c.answer_of-x.result ≡ answer dual M r m r a.i = c.answer_of-x.ensures.1 ∙ ap (answer dual M r m r) e in
    let y : c.answer_of-y.result ≡ answer dual M r (m + 1) r a.i = c.answer_of-y.ensures.1 ∙ ap (answer dual M r (m + 1) r) e in
    let call = c.put_two.ensures in
    let t = c.put_two.new.self in
    let base = c.cell-base.result in
    let begins : base ≡ place_of s.order.places r * (m + 2) = omega (arith, c.cell-base.ensures.value) in
    let now : rows_by t.order.rows t.order.places (held t.c t.w.now t.ns.now) ≡ rows_by m s.order.places (held s.c t.w.now t.ns.now) =
    λ i. rows_by (call.same.3 i).rows (call.same.3 i).places (held (call.same.2 i) t.w.now t.ns.now) in
    λ _.
    subst
    (λ (n : ℕ). Becomes (answered_up dual n a.i) (answered_up_ok dual n a.i) M (rows_by t.order.rows t.order.places (held t.c t.w.now t.ns.now)) c.both.result)
    (sym (by_long m s.order.places H)) (
      now
          ∙ ap (rows_by m s.order.places) call.cells
          ∙ write_by s.order.permutes H (held_room s.order.permutes s.c s.w.now s.ns.now s.whole) r h base begins m (m + 1) c.answer_of-x.result
          c.answer_of-y.result (omega arith) (omega arith)
          ∙ (λ j. set M r (set (set (get_or M r []) m (x j)) (m + 1) (y j))),
      c.both.ensures ∙ (λ j. (c.is_fine.ensures ∙ ap fine_dv x) j && (c.is_fine-2.ensures ∙ ap fine_dv y) j),
    )

pub returns-clause-same : goal.returns-clause-same
returns-clause-same c =
    let s = c.args.self.now in
    let t = c.put_two.new.self in
    let e = c.put_two.ensures.same in
    let rows = ap (λ (o : RowOrder). o.rows) e.3 in (
      by_long t.order.rows t.order.places (held t.c t.w.now t.ns.now) ∙ rows ∙ sym (by_long s.order.rows s.order.places (held s.c s.w.now s.ns.now)),
      e.0,
      e.1,
      e.2,
      rows,
    )
