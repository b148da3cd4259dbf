-- `solve_partials::work::Cells::answer_at` meets its contract: a case for a row that there is not, and one for a row that there is.
use Prim.Native.Nat.{◌+◌, ◌≤◌, ◌<◌}
use native.Mathlib.Omega.{arith}
use mathlib.Core.Path.{sym, ◌∙◌}
use Rattle.solve.specs.Placed.{rows_by}
use Rattle.solve_partials.specs.Held.{held}
use Rattle.solve_partials.proofs.Outcomes.{column_in, column-past}
use Rattle.solve_partials.proofs.Places.{at_by}
use Rattle.solve_partials.proofs.work.Cells.answer_at.Goals as goal
use Rattle.solve_partials.proofs.work.Cells.answer_at.Goals.{then-self-at-via-then-self-at, then-self-at-via-else-self-at+then-self-at-2}

pub returns-then-self-at : goal.returns-then-self-at
returns-then-self-at c =
    let a = c.args in
    let s = a.self.now in
    let m = s.order.rows in
    let none : m ≤ a.at + a.i = elim c.then-self-at.branch [
      | then-self-at-via-then-self-at w ↦ omega (arith, w.if-self-at.true)
      | then-self-at-via-else-self-at+then-self-at-2 w ↦ w.if-self-at-2.true
    ] in
    c.cst.ensures ∙ column-past m (rows_by m s.order.places (held s.c s.w.now s.ns.now)) a.b s.order.permutes.few (a.at + a.i) none

pub returns : goal.returns
returns c =
    let a = c.args in
    let s = a.self.now in
    let m = s.order.rows in
    let h : a.at + a.i < m = c.if-self-at-2.false in
    c.value_in.ensures.0
    ∙ at_by s.order.permutes s.c s.w.now s.ns.now s.whole (a.at + a.i) a.b _ h c.requires.0 c.cell.ensures.value
    ∙ sym (column_in m (rows_by m s.order.places (held s.c s.w.now s.ns.now)) a.b s.order.permutes.few (a.at + a.i) h)
