-- `solve_partials::work::Cells::reduce_cell` meets its contract: a case for the matrix and one for the right sides.
use mathlib.Core.Path.{◌≡◌, ap, ◌∙◌}
use native.Mathlib.Omega.{arith}
use lib.ListN.{set}
use Rattle.partials.specs.declared.Dv.{Dv}
use Rattle.partials.specs.Dual.{sub_dv, mul_dv, fine_dv}
use Rattle.solve_partials.specs.Held.{held, valued, Clean, at}
use Rattle.solve_partials.proofs.Cells.{in_matrix, in_sides}
use Rattle.solve_partials.proofs.work.Cells.reduce_cell.Goals as goal
use Rattle.solve_partials.proofs.work.Cells.reduce_cell.Goals.{After-count-ny}

-- the other cell as it was copied out
y-is : (c : After-count-ny) → let s = c.args.self.now in valued c.load-y.result c.count-ny.result ≡ at s.c s.w.now s.ns.now c.args.p
y-is c = ap (valued c.load-y.result) c.count-ny.ensures ∙ c.load-y.ensures.2

y-clean : (c : After-count-ny) → Clean c.load-y.result c.count-ny.result
y-clean c = λ j g h. c.load-y.ensures.1 j (omega (arith, c.count-ny.ensures)) h

pub subtract_at-requires : goal.subtract_at-requires
subtract_at-requires c =
    let h = c.requires in
    (h.0, h.2, omega (arith, c.count-ny.ensures), h.3, y-clean (goal.at.subtract_at-requires c).After-count-ny)

pub returns-then-matrix-clause-cell : goal.returns-then-matrix-clause-cell
returns-then-matrix-clause-cell c =
    let call = c.subtract_at.ensures.cell in
    let a = c.args in
    let s = a.self.now in
    let w = s.w.now in
    let ns = s.ns.now in
    let y = y-is (goal.at.returns-then-matrix-clause-cell c).After-count-ny in
    let F = valued a.f.now a.nf in
    let e = ap (λ (v : Dv). sub_dv (at s.c w ns a.t) (mul_dv F v)) y ∙ in_matrix c.if-matrix.true F (at s.c w ns a.t) (at s.c w ns a.p) in
    (call.0 ∙ ap (set (held s.c w ns) a.t) e, call.1 ∙ ap fine_dv e)

pub subtract_at-requires-2 : goal.subtract_at-requires-2
subtract_at-requires-2 c =
    let h = c.requires in
    (h.0, omega (arith, c.count-ny.ensures), h.2, y-clean (goal.at.subtract_at-requires-2 c).After-count-ny, h.3)

pub returns-clause-cell : goal.returns-clause-cell
returns-clause-cell c =
    let call = c.subtract_at-2.ensures.cell in
    let a = c.args in
    let s = a.self.now in
    let w = s.w.now in
    let ns = s.ns.now in
    let y = y-is (goal.at.returns-clause-cell c).After-count-ny in
    let F = valued a.f.now a.nf in
    let e = ap (λ (v : Dv). sub_dv (at s.c w ns a.t) (mul_dv v F)) y ∙ in_sides c.if-matrix.false F (at s.c w ns a.t) (at s.c w ns a.p) in
    (call.0 ∙ ap (set (held s.c w ns) a.t) e, call.1 ∙ ap fine_dv e)
