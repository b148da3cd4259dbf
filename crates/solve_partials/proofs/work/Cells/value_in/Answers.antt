-- `solve_partials::work::Cells::value_in` meets its contract: the cell is there.
use mathlib.Core.Path.{sym, subst, ◌∙◌}
use Rattle.cells.specs.Normal.{Normal}
use Rattle.solve_partials.proofs.Cells.{held-read, at_normal}
use Rattle.solve_partials.proofs.work.Cells.value_in.Goals as goal

pub returns : goal.returns
returns c =
    let a = c.args in
    let s = a.self.now in
    let e = c.get.ensures ∙ held-read s.c s.w.now s.ns.now s.room a.k c.requires in
    (e, subst (Normal s.c) (sym e) (at_normal s.room a.k c.requires))
