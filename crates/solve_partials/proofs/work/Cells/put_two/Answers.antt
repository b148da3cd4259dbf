-- `solve_partials::work::Cells::put_two` meets its contract: one cell after the other.
use Rattle.solve_partials.proofs.Cells.{two_put}
use Rattle.solve_partials.proofs.work.Cells.put_two.Goals as goal

pub returns-clause-cells : goal.returns-clause-cells
returns-clause-cells c =
    let one = c.put.ensures in
    let two = c.put-2.ensures in
    let a = c.args in
    let s = a.self.now in
    two_put s.room a.i a.j c.requires.0 c.requires.1 a.x a.y c.requires.2 c.requires.3 one.fact_1 one.fact_2 two.fact_1 two.fact_2
