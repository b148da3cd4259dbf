-- `solve_partials::work::Cells::subtract_row` meets its contract: the numbers below k are worked out, and the flag is their verdict.
use mathlib.Core.Path.{◌≡◌}
use mathlib.Core.List.{[]}
use lib.ListN.{length, get_or}
use Rattle.meaning.specs.Search.{every}
use Rattle.partials.specs.Dual.{dual}
use Rattle.solve.specs.Placed.{rows_by}
use Rattle.solve.specs.Verdicts.{fine_at}
use Rattle.solve_partials.specs.Held.{held, valued}
use Rattle.solve_partials.proofs.Turns.{lessened}
use Rattle.solve_partials.proofs.work.Cells.subtract_row.Given as goal

abbrev pub invariant-loop-k : goal.invariant-loop-k
invariant-loop-k l =
    let s = l.initial.self in
    let t = l.self in
    let m = s.order.rows in
    let M = rows_by m s.order.places (held s.c s.w.now s.ns.now) in
    let F = valued l.f l.nf in
    (rows_by m s.order.places (held s.c t.w.now t.ns.now) ≡ lessened dual m l.col l.r F M l.k)
    × (l.fine ≡ every l.k (fine_at dual m l.col F (get_or M l.col []) (get_or M l.r [])))
    × (t.w.ghost_name ≡ s.w.ghost_name) × (t.ns.ghost_name ≡ s.ns.ghost_name) × (t.c ≡ s.c) × (t.order ≡ s.order)
    × (length t.ns.now ≡ length s.ns.now)
