-- `solve_partials::work::Cells::value_of` meets its contract: the number lies there.
use mathlib.Core.Path.{ap, ◌∙◌}
use Rattle.partials.specs.declared.Dv.{Dv}
use Rattle.solve_partials.proofs.Places.{at_by}
use Rattle.solve_partials.proofs.work.Cells.value_of.Goals as goal

pub returns : goal.returns
returns c =
    let a = c.args in
    let s = a.self.now in
    c.value_at.ensures ∙ ap (λ (d : Dv). d.v) (at_by s.order.permutes s.c s.w.now s.ns.now s.whole a.r a.k _ c.requires.0 c.requires.1 c.cell.ensures.value)
