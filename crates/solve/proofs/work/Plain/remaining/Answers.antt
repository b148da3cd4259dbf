-- `solve::work::Plain::remaining` meets its contract: the terms of the rows passed are taken off.
use mathlib.Core.Path.{◌≡◌, sym, ap, ◌∙◌}
use Prim.Native.Nat.{◌+◌, ◌-◌}
use native.Mathlib.Omega.{arith}
use Rattle.meaning.specs.Scalar.{plain}
use Rattle.solve.specs.Placed.{rows_by}
use Rattle.solve.specs.Substitution.{remains}
use Rattle.solve.proofs.Answers.{remains-first, remains_below}
use Rattle.solve.proofs.work.Plain.remaining.Goals as goal

pub loop-below-init : goal.loop-below-init
loop-below-init c =
    let a = c.args in
    let s = a.self.now in
    c.number-acc.ensures ∙ sym (remains-first plain (rows_by s.order.rows s.order.places s.w.now) a.r a.c)

pub loop-below-preserved : goal.loop-below-preserved
loop-below-preserved c =
    let a = c.args in
    let s = a.self.now in
    let l = c.loop-below in
    (λ i. plain.minus (l.invariant i) (plain.times (c.number.ensures i) (c.number-in-loop-below.ensures i)))
    ∙ sym (remains_below plain (rows_by s.order.rows s.order.places s.w.now) a.r a.c l.below (omega (arith, l.auto.below)))

pub returns : goal.returns
returns c =
    let a = c.args in
    let s = a.self.now in
    let l = c.loop-below in
    let e : l.below - (a.r + 1) ≡ s.order.rows - 1 - a.r = omega arith in
    l.invariant ∙ ap (remains plain (rows_by s.order.rows s.order.places s.w.now) a.r a.c a.r) e
