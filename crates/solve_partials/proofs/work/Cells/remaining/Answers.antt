-- `solve_partials::work::Cells::remaining` meets its contract: the terms of the rows passed are taken off.
use Prim.Native.Nat.{◌+◌, ◌-◌, ◌<◌}
use native.Mathlib.Nat.{min-eq_left}
use native.Mathlib.Omega.{arith}
use mathlib.Core.Path.{◌≡◌, sym, ap, ◌∙◌, subst}
use lib.ListN.{length}
use Rattle.partials.specs.Dual.{dual, sub_dv, mul_dv}
use Rattle.cells.specs.Normal.{Normal}
use Rattle.solve.specs.Placed.{rows_by}
use Rattle.solve.specs.Substitution.{remains}
use Rattle.solve.proofs.Answers.{remains-first, remains_below}
use Rattle.solve_partials.specs.Held.{held, numbered, valued}
use Rattle.solve_partials.proofs.Cells.{value_normal}
use Rattle.solve_partials.proofs.Places.{row_within, at_by}
use Rattle.solve_partials.proofs.work.Cells.remaining.Goals as goal
use Rattle.solve_partials.proofs.work.Cells.remaining.Goals.{In-loop-below}

pub loop-below-init : goal.loop-below-init
loop-below-init c =
    let a = c.args in
    let s = a.self.now in
    let M = rows_by s.order.rows s.order.places (held s.c s.w.now s.ns.now) in
    let l = c.load-acc in (
      omega (arith, c.count-n.ensures),
      ap (valued l.result) c.count-n.ensures ∙ l.ensures.2
          ∙ at_by s.order.permutes s.c s.w.now s.ns.now s.whole a.r a.b _ c.requires.0 c.requires.1 c.cell-first.ensures.value
          ∙ sym (remains-first dual M a.r a.b),
    )

-- the factor is there
factor : (c : In-loop-below) → c.cell-own.result + c.loop-below.below < length c.args.self.now.ns.now
factor c =
    let a = c.args in
    let s = a.self.now in
    omega (arith, c.cell-own.ensures.value, row_within s.order.permutes a.r c.loop-below.below _ c.requires.0 (omega (arith, c.loop-below-test.true)) s.whole)

pub overflow_add-own : goal.overflow_add-own
overflow_add-own c = omega (arith, factor (goal.at.overflow_add-own c).In-loop-below, c.args.self.now.room.few)

pub less_term-n-requires : goal.less_term-n-requires
less_term-n-requires c =
    (c.cell.ensures.within, factor (goal.at.less_term-n-requires c).In-loop-below, c.loop-below.invariant.0)

pub loop-below-preserved : goal.loop-below-preserved
loop-below-preserved c =
    let a = c.args in
    let s = a.self.now in
    let M = rows_by s.order.rows s.order.places (held s.c s.w.now s.ns.now) in
    let l = c.loop-below in
    let call = c.less_term-n.ensures in
    let h : l.below < s.order.rows = c.loop-below-test.true in
    let x = at_by s.order.permutes s.c s.w.now s.ns.now s.whole l.below a.b _ h c.requires.1 c.cell.ensures.value in
    let y = at_by s.order.permutes s.c s.w.now s.ns.now s.whole a.r l.below (c.cell-own.result + l.below) c.requires.0 (omega (arith, h))
    (omega (arith, c.cell-own.ensures.value)) in (
      call.0,
      call.1 ∙ (λ t. sub_dv (l.invariant.1 t) (mul_dv (x t) (y t))) ∙ sym (remains_below dual M a.r a.b l.below (omega (arith, l.auto.below))),
    )

pub returns : goal.returns
returns c =
    let a = c.args in
    let s = a.self.now in
    let M = rows_by s.order.rows s.order.places (held s.c s.w.now s.ns.now) in
    let l = c.loop-below in
    let z : l.below - (a.r + 1) ≡ s.order.rows - 1 - a.r = omega arith in
    let e = c.value.ensures ∙ ap (valued l.acc) (min-eq_left (omega (arith, l.invariant.0, s.room.narrow))) in (
      subst (Normal s.c) (sym e) (value_normal s.c s.room.narrow (numbered l.acc) l.n l.invariant.0),
      e ∙ l.invariant.1 ∙ ap (remains dual M a.r a.b a.r) z,
    )
