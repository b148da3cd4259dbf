-- `solve_partials::work::Cells::subtract_row` meets its contract: the numbers below k are worked out, and the flag is their verdict.
use Prim.Native.Nat.{ℕ, ◌+◌, ◌*◌, ◌≤◌, ◌<◌}
use native.Mathlib.Omega.{arith}
use mathlib.Core.Path.{◌≡◌, refl, sym, ap, subst, ◌∙◌}
use mathlib.Core.List.{[]}
use lib.ListN.{length, get_or}
use lib.Dec.{ltb}
use Rattle.meaning.specs.Search.{every}
use Rattle.meaning.proofs.Every.{every_next}
use Rattle.partials.specs.Dual.{dual, fine_dv}
use Rattle.row_order.specs.Order.{place_of}
use Rattle.solve.specs.Placed.{rows_by}
use Rattle.solve.specs.Elimination.{less_by}
use Rattle.solve.specs.Verdicts.{fine_at, subtracted_ok}
use Rattle.solve.proofs.Steps.{fine_start, fine-at}
use Rattle.solve.proofs.By.{put_by}
use Rattle.solve_partials.specs.Held.{held, valued, at, CellBecomes}
use Rattle.solve_partials.proofs.Turns.{lessened, lessened_start, lessened_end, lessened_value, lessened_next}
use Rattle.solve_partials.proofs.Places.{row_within, held_room, cells_shaped, at_by}
use Rattle.solve_partials.proofs.work.Cells.subtract_row.Goals as goal
use Rattle.solve_partials.proofs.work.Cells.subtract_row.Goals.{In-loop-k}

pub loop-k-init : goal.loop-k-init
loop-k-init c =
    let a = c.args in
    let s = a.self.now in
    let m = s.order.rows in
    let M = rows_by m s.order.places (held s.c s.w.now s.ns.now) in
    let F = valued a.f.now a.nf in (
      lessened_start dual m a.col a.r F M (cells_shaped s.order.permutes s.c s.w.now s.ns.now s.whole) c.requires.1 c.requires.0,
      fine_start dual m a.col F (get_or M a.col []) (get_or M a.r []),
      refl,
      refl,
      refl,
      refl,
      refl,
    )

-- the cells of a turn are there
cell_r : (c : In-loop-k) → c.cell-t.result + c.loop-k.k < length c.args.self.now.ns.now
cell_r c =
    let s = c.args.self.now in
    omega (arith, c.cell-t.ensures.value, row_within s.order.permutes c.args.r c.loop-k.k _ c.requires.1 c.loop-k-test.true s.whole)

cell_col : (c : In-loop-k) → c.cell-p.result + c.loop-k.k < length c.args.self.now.ns.now
cell_col c =
    let s = c.args.self.now in
    omega (arith, c.cell-p.ensures.value, row_within s.order.permutes c.args.col c.loop-k.k _ (omega (arith, c.requires)) c.loop-k-test.true s.whole)

pub overflow_add-t : goal.overflow_add-t
overflow_add-t c = omega (arith, cell_r (goal.at.overflow_add-t c).In-loop-k, c.args.self.now.room.few)

pub overflow_add-p : goal.overflow_add-p
overflow_add-p c = omega (arith, cell_col (goal.at.overflow_add-p c).In-loop-k, c.args.self.now.room.few)

pub reduce_cell-requires : goal.reduce_cell-requires
reduce_cell-requires c =
    let i = c.loop-k.invariant in (
      omega (arith, cell_r (goal.at.reduce_cell-requires c).In-loop-k, i.6),
      omega (arith, cell_col (goal.at.reduce_cell-requires c).In-loop-k, i.6),
      omega (arith, c.requires.2, i.4),
      c.requires.3,
    )

pub loop-k-preserved : goal.loop-k-preserved
loop-k-preserved c =
    let a = c.args in
    let s = a.self.now in
    let m = s.order.rows in
    let places = s.order.places in
    let M = rows_by m places (held s.c s.w.now s.ns.now) in
    let F = valued a.f.now a.nf in
    let l = c.loop-k in
    let i = l.invariant in
    let w = l.self.w.now in
    let ns = l.self.ns.now in
    let z = c.reduce_cell.new.self in
    let t = c.cell-t.result in
    let p = c.cell-p.result in
    let h : a.r < m = c.requires.1 in
    let k : l.k < m + 2 = c.loop-k-test.true in
    let whole : length ns ≡ m * (m + 2) = i.6 ∙ s.whole in
    let does = subst
    (λ (c' : ℕ). CellBecomes c' (t + l.k) (less_by dual (ltb l.k m) F (at c' w ns (t + l.k)) (at c' w ns (p + l.k))) w ns z.w.now z.ns.now c.reduce_cell.result)
    i.4 c.reduce_cell.ensures.cell in
    let begins : t ≡ place_of places a.r * (m + 2) = omega (arith, c.cell-t.ensures.value) in
    let x = at_by s.order.permutes s.c w ns whole a.r l.k (t + l.k) h k (omega (arith, c.cell-t.ensures.value)) in
    let y = at_by s.order.permutes s.c w ns whole a.col l.k (p + l.k) (omega (arith, c.requires.0, h)) k (omega (arith, c.cell-p.ensures.value)) in
    let v = less_by dual (ltb l.k m) F (at s.c w ns (t + l.k)) (at s.c w ns (p + l.k)) in
    let is : v ≡ less_by dual (ltb l.k m) F _ _ = λ j. less_by dual (ltb l.k m) F (x j) (y j) in
    let sh = cells_shaped s.order.permutes s.c s.w.now s.ns.now s.whole in
    let low : a.col ≤ l.k = l.auto.k in
    let value = lessened_value dual m a.col a.r F M sh h c.requires.0 (rows_by m places (held s.c w ns)) l.k v low k i.0 is in (
      ap (rows_by m places) does.0
          ∙ put_by s.order.permutes (held s.c w ns) (held_room s.order.permutes s.c w ns whole) a.r h t begins l.k v k
          ∙ lessened_next dual m a.col a.r F M sh h c.requires.0 (rows_by m places (held s.c w ns)) l.k v low k i.0 is,
      every_next (fine_at dual m a.col F (get_or M a.col []) (get_or M a.r [])) l.k i.1
          (does.1 ∙ ap fine_dv value ∙ fine-at dual m a.col F (get_or M a.col []) (get_or M a.r []) l.k low) c.both-fine.ensures,
      c.reduce_cell.ensures.same.0 ∙ i.2,
      c.reduce_cell.ensures.same.1 ∙ i.3,
      c.reduce_cell.ensures.same.2 ∙ i.4,
      c.reduce_cell.ensures.same.3 ∙ i.5,
      c.reduce_cell.ensures.same.4 ∙ i.6,
    )

pub returns : goal.returns
unfolding subtracted_ok
returns c =
    let a = c.args in
    let s = a.self.now in
    let m = s.order.rows in
    let M = rows_by m s.order.places (held s.c s.w.now s.ns.now) in
    let F = valued a.f.now a.nf in
    let l = c.loop-k in
    let i = l.invariant in
    let sh = cells_shaped s.order.permutes s.c s.w.now s.ns.now s.whole in
    let e : l.k ≡ m + 2 = omega (arith, c.loop-k-test.false, l.auto.k-end, c.requires) in
    record {
      rows = (
        i.0 ∙ ap (lessened dual m a.col a.r F M) e ∙ lessened_end dual m a.col a.r F M sh c.requires.1 c.requires.0,
        i.1 ∙ ap (λ (k : ℕ). every k (fine_at dual m a.col F (get_or M a.col []) (get_or M a.r []))) (e ∙ sym (sh.each a.r c.requires.1)),
      );
      same = (i.2, i.3, i.4, i.5, i.6);
    }
