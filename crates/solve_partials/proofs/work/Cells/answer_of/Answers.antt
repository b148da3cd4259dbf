-- `solve_partials::work::Cells::answer_of` meets its contract: what remains, times 1 over the row's own number.
use native.Mathlib.Omega.{arith}
use mathlib.Core.Path.{◌∙◌}
use Rattle.meaning.specs.Scalar.{one64}
use Rattle.partials.specs.Dual.{cst_dv, mul_dv, div_dv}
use Rattle.solve.specs.Substitution.{answer}
use Rattle.solve_partials.proofs.Places.{at_by}
use Rattle.solve_partials.proofs.work.Cells.answer_of.Goals as goal

pub returns : goal.returns
unfolding answer
returns c =
    let a = c.args in
    let s = a.self.now in
    let d = at_by s.order.permutes s.c s.w.now s.ns.now s.whole a.r a.r _ c.requires.0 (omega (arith, c.requires.0)) c.cell-own.ensures.value in
    (c.divided.ensures.1, c.divided.ensures.0 ∙ (λ i. mul_dv (c.remaining.ensures.1 i) (div_dv (cst_dv one64) (d i))))
