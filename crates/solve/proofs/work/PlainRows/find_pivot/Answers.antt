-- `solve::work::PlainRows::find_pivot` meets its contract: best is the best of the rows passed, and top is its number.
use mathlib.Core.Path.{◌≡◌, sym, ap, subst, ◌∙◌}
use Prim.Native.Nat.{ℕ, ◌<◌}
use native.Mathlib.Omega.{arith}
use Rattle.meaning.specs.Scalar.{plain}
use Rattle.meaning.specs.Number.{at_least}
use Rattle.meaning.specs.Table.{at2}
use Rattle.meaning.proofs.For.{first, next, last}
use Rattle.solve.specs.Pivot.{pivot}
use Rattle.solve.specs.Placed.{rows_by}
use Rattle.solve.proofs.Pivots.{found_is}
use Rattle.solve.proofs.By.{by_long}
use Rattle.solve.proofs.work.PlainRows.find_pivot.Goals as goal
use Rattle.solve.proofs.work.PlainRows.find_pivot.Goals.{then-at_least, else-at_least}

pub returns-then-col-m : goal.returns-then-col-m
returns-then-col-m c =
    let s = c.args.self.now in
    λ h. absurd (omega (arith, h, c.if-col-m.true, by_long s.order.rows s.order.places s.w.now))

pub loop-r-init : goal.loop-r-init
loop-r-init c = (omega arith, omega arith, c.number-top.ensures, first (omega (arith, c.if-col-m.false)))

pub loop-r-preserved : goal.loop-r-preserved
loop-r-preserved c =
    let a = c.args in
    let s = a.self.now in
    let M = rows_by s.order.rows s.order.places s.w.now in
    let l = c.loop-r in
    let i = l.invariant in
    let h : l.r < s.order.rows = c.loop-r-test.true in
    -- what the call compares, in terms of the rows
    let asked : c.at_least.result ≡ at_least (at2 plain M l.r a.col) (at2 plain M l.best a.col) =
    c.at_least.ensures ∙ (λ t. at_least (c.number-v.ensures t) (i.2 t)) in
    let own = λ (k : ℕ). at2 plain M k a.col in
    elim c.if-at_least.branch [
      | then-at_least w ↦ (
        omega (arith, w.best-is, i.0, i.1),
        omega (arith, w.best-is),
        w.top-is ∙ c.number-v.ensures ∙ ap own (sym w.best-is),
        next i.3 h (w.best-is ∙ rw (sym asked ∙ w.if-at_least.true)),
      )
      | else-at_least w ↦ (
        omega (arith, w.best-is, i.0),
        omega (arith, w.best-is, i.1),
        w.top-is ∙ i.2 ∙ ap own (sym w.best-is),
        next i.3 h (w.best-is ∙ rw (sym asked ∙ w.if-at_least.false)),
      )
    ]

pub returns : goal.returns
returns c =
    let a = c.args in
    let s = a.self.now in
    let l = c.loop-r in
    let M = rows_by s.order.rows s.order.places s.w.now in
    λ h. subst (λ (m : ℕ). l.best ≡ pivot plain m a.col M) (sym (by_long s.order.rows s.order.places s.w.now))
    (found_is plain s.order.rows a.col M c.if-col-m.false (last l.invariant.3 c.loop-r-test.false))
