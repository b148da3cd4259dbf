-- `solve_partials::work::Cells::divided` meets its contract: what each call gives, one in the other.
use mathlib.Core.Path.{sym, subst, ◌∙◌}
use Rattle.meaning.specs.Scalar.{one64}
use Rattle.partials.specs.Dual.{mul_dv, div_dv}
use Rattle.cells.specs.Normal.{Normal}
use Rattle.solve_partials.proofs.Cells.{mul_normal, div_normal, cst_normal}
use Rattle.solve_partials.proofs.work.Cells.divided.Goals as goal

pub returns : goal.returns
returns c =
    let a = c.args in
    let s = a.self.now in
    let h = s.room.narrow in
    let x = c.value_in-x in
    let one = c.cst in
    let e = c.div.ensures in
    let o = subst (Normal s.c) (sym one.ensures) (cst_normal s.c h one64) in
    let n = subst (Normal s.c) (sym e) (div_normal s.c h one.result x.result o x.ensures.1) in (
      c.mul.ensures ∙ (λ t. mul_dv a.acc ((e ∙ (λ i. div_dv (one.ensures i) (x.ensures.0 i))) t)),
      subst (Normal s.c) (sym c.mul.ensures) (mul_normal s.c h a.acc c.div.result c.requires.1 n),
    )
