-- `solve_partials::rows::CellsRows::reduce` meets its contract: a case for no such row, one for the row that is skipped, and one for the row that is
-- reduced.
use Prim.Native.Nat.{ℕ, ◌+◌, ◌<◌}
use native.Mathlib.Omega.{arith}
use mathlib.Core.Path.{◌≡◌, sym, ap, ◌∙◌, subst}
use mathlib.Core.Bool.{true, ◌&&◌}
use mathlib.Core.List.{List, []}
use lib.ListN.{length, get_or, set}
use lib.Seq.{set-get_or}
use lib.Ieee.{Float, eq}
use Rattle.meaning.specs.Scalar.{zero64}
use Rattle.meaning.specs.Table.{at2}
use Rattle.partials.specs.declared.Dv.{Dv}
use Rattle.partials.specs.Dual.{dual, div_dv, fine_dv}
use Rattle.solve.specs.Left.{Becomes}
use Rattle.solve.specs.Placed.{rows_by}
use Rattle.solve.specs.Elimination.{subtracted, reduced}
use Rattle.solve.specs.Verdicts.{subtracted_ok, reduced_ok}
use Rattle.solve.proofs.By.{by_long}
use Rattle.solve_partials.specs.Held.{held, valued, Clean}
use Rattle.solve_partials.proofs.Cells.{doubles_back, doubles_clean}
use Rattle.solve_partials.proofs.Turns.{skipped, skipped_ok, taken-off, taken_off_ok}
use Rattle.solve_partials.proofs.Places.{at_by}
use Rattle.solve_partials.proofs.rows.CellsRows.reduce.Goals as goal
use Rattle.solve_partials.proofs.rows.CellsRows.reduce.Goals.{After-value_at, After-doubles-parts}
use Rattle.solve_partials.proofs.rows.CellsRows.reduce.Goals.{then-r-self-via-then-r-self, then-r-self-via-else-r-self+then-col-r}

-- the rows, and how many there are
abbrev rows_in : After-value_at → List (List Dv)
rows_in k = let s = k.args.self.now in rows_by s.order.rows s.order.places (held s.c s.w.now s.ns.now)

many : (k : After-value_at) → length (rows_in k) ≡ k.args.self.now.order.rows
many k = let s = k.args.self.now in by_long s.order.rows s.order.places (held s.c s.w.now s.ns.now)

-- what the test is of, in terms of the rows
tested : (k : After-value_at) → eq k.value_at.result zero64 ≡ eq (at2 dual (rows_in k) k.args.r k.args.col).v zero64
tested k =
    let a = k.args in
    let s = a.self.now in
    let in' : a.col < s.order.rows + 2 = omega (arith, k.if-col-r.false, k.if-r-self.false) in
    ap (λ (x : Float). eq x zero64)
    (k.value_at.ensures
    ∙ ap (λ (d : Dv). d.v) (at_by s.order.permutes s.c s.w.now s.ns.now s.whole a.r a.col _ k.if-r-self.false in' k.cell-t.ensures.value))

pub returns-then-r-self-clause-rows : goal.returns-then-r-self-clause-rows
returns-then-r-self-clause-rows c =
    let s = c.args.self.now in
    let long = by_long s.order.rows s.order.places (held s.c s.w.now s.ns.now) in
    λ k b h. absurd (elim c.then-r-self.branch [
      | then-r-self-via-then-r-self w ↦ omega (arith, w.if-r-self.true, h, long)
      | then-r-self-via-else-r-self+then-col-r w ↦ omega (arith, w.if-col-r.true, b)
    ])

pub returns-then-value_at-clause-rows : goal.returns-then-value_at-clause-rows
returns-then-value_at-clause-rows c =
    let a = c.args in
    let at = (goal.at.returns-then-value_at-clause-rows c).After-value_at in
    let M = rows_in at in
    let m = a.self.now.order.rows in
    let zero = sym (tested at) ∙ c.if-value_at.true in
    let p = get_or M a.col [] in
    let t = get_or M a.r [] in
    λ k b h.
    subst
    (λ (n : ℕ). Becomes (λ M. set M a.r (reduced dual n a.col (get_or M a.col []) (get_or M a.r [])))
    (λ M. reduced_ok dual n a.col (get_or M a.col []) (get_or M a.r [])) M M true)
    (sym (many at)) (
      sym (ap (set M a.r) (skipped dual m a.col p t zero) ∙ set-get_or M a.r []),
      sym (skipped_ok dual m a.col p t zero),
    )

pub subtract_row-fine-requires : goal.subtract_row-fine-requires
subtract_row-fine-requires c =
    let s = c.args.self.now in
    let q = c.quotient-f in (
      c.if-col-r.false,
      c.if-r-self.false,
      q.ensures.1.few,
      subst (λ (l : List Float). Clean l q.result.n) (sym c.doubles-parts.ensures) (doubles_clean s.c q.result s.room.narrow q.ensures.1),
    )

-- the multiplier as it was copied out
parts_are : (k : After-doubles-parts) → valued k.doubles-parts.result k.quotient-f.result.n ≡ k.quotient-f.result
parts_are k =
    let s = k.args.self.now in
    let q = k.quotient-f in
    ap (λ (l : List Float). valued l q.result.n) k.doubles-parts.ensures ∙ doubles_back s.c q.result s.room.narrow q.ensures.1

pub returns-clause-rows : goal.returns-clause-rows
returns-clause-rows c =
    let a = c.args in
    let s = a.self.now in
    let at = (goal.at.returns-clause-rows c).After-value_at in
    let M = rows_in at in
    let m = s.order.rows in
    let h : a.r < m = c.if-r-self.false in
    let b : a.col < a.r = c.if-col-r.false in
    let call = c.subtract_row-fine in
    let t = call.new.self in
    let q = c.quotient-f in
    let other = sym (tested at) ∙ c.if-value_at.false in
    let x = at_by s.order.permutes s.c s.w.now s.ns.now s.whole a.r a.col _ h (omega (arith, b, h)) c.cell-t.ensures.value in
    let y = at_by s.order.permutes s.c s.w.now s.ns.now s.whole a.col a.col _ (omega (arith, b, h)) (omega (arith, b, h)) c.cell.ensures.value in
    let f : q.result ≡ div_dv (at2 dual M a.r a.col) (at2 dual M a.col a.col) = q.ensures.0 ∙ (λ i. div_dv (x i) (y i)) in
    let F = parts_are (goal.at.returns-clause-rows c).After-doubles-parts ∙ f in
    let p = get_or M a.col [] in
    let row = get_or M a.r [] in
    let now : rows_by t.order.rows t.order.places (held t.c t.w.now t.ns.now) ≡ rows_by m s.order.places (held s.c t.w.now t.ns.now) =
    λ i. rows_by (call.ensures.same.3 i).rows (call.ensures.same.3 i).places (held (call.ensures.same.2 i) t.w.now t.ns.now) in
    λ _ _ _.
    subst
    (λ (n : ℕ). Becomes (λ M. set M a.r (reduced dual n a.col (get_or M a.col []) (get_or M a.r [])))
    (λ M. reduced_ok dual n a.col (get_or M a.col []) (get_or M a.r [])) M (rows_by t.order.rows t.order.places (held t.c t.w.now t.ns.now)) c.both.result)
    (sym (many at)) (
      now
          ∙ call.ensures.rows.0
          ∙ ap (λ (v : Dv). set M a.r (subtracted dual m a.col v p row)) F
          ∙ ap (set M a.r) (sym (taken-off dual m a.col p row other)),
      c.both.ensures
          ∙ (λ i. (c.is_fine.ensures ∙ ap fine_dv f) i && (call.ensures.rows.1 ∙ ap (λ (v : Dv). subtracted_ok dual m a.col v p row) F) i)
          ∙ sym (taken_off_ok dual m a.col p row other),
    )
