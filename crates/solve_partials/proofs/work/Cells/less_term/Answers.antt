-- `solve_partials::work::Cells::less_term` meets its contract: both cells are copied out, and their product is taken off.
use native.Mathlib.Omega.{arith}
use mathlib.Core.Path.{ap, ◌∙◌}
use Rattle.partials.specs.Dual.{sub_dv, mul_dv}
use Rattle.solve_partials.specs.Held.{valued}
use Rattle.solve_partials.proofs.work.Cells.less_term.Goals as goal

pub subtract-requires : goal.subtract-requires
subtract-requires c =
    let a = c.args in
    let p = c.requires in
    let narrow = a.self.now.room.narrow in
    let x = c.load-x.ensures in
    let nx = c.count-nx.ensures in
    let y = c.load-y.ensures in
    let ny = c.count-ny.ensures in (
      omega (arith, narrow, p.2),
      omega (arith, narrow, nx),
      omega (arith, narrow, ny),
      omega arith,
      λ j g h. x.1 j (omega (arith, nx)) h,
      λ j g h. y.1 j (omega (arith, ny)) h,
    )

pub returns : goal.returns
returns c =
    let a = c.args in
    let call = c.subtract.ensures in
    let lx = c.load-x in
    let nx = c.count-nx.ensures in
    let ly = c.load-y in
    let ny = c.count-ny.ensures in
    let x = ap (valued lx.result) nx ∙ lx.ensures.2 in
    let y = ap (valued ly.result) ny ∙ ly.ensures.2 in
    (omega (arith, call.0, nx, ny, c.requires.2), call.1 ∙ (λ t. sub_dv (valued a.acc.now a.n) (mul_dv (x t) (y t))))
