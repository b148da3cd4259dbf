-- `solve_partials::work::Cells::quotient` meets its contract: both cells are there.
use mathlib.Core.Path.{sym, subst, ◌∙◌}
use Rattle.partials.specs.Dual.{div_dv}
use Rattle.cells.specs.Normal.{Normal}
use Rattle.solve_partials.proofs.Cells.{over_normal}
use Rattle.solve_partials.proofs.work.Cells.quotient.Goals as goal

pub returns : goal.returns
returns c =
    let a = c.args in
    let s = a.self.now in
    let e = c.div.ensures ∙ (λ t. div_dv (c.value_in.ensures.0 t) (c.value_in-2.ensures.0 t)) in
    (e, subst (Normal s.c) (sym e) (over_normal s.room a.i a.j c.requires.0 c.requires.1))
