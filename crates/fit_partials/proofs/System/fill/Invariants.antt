-- `fit_partials::System::fill` meets its contract: the rows below r are the system's, and the verdict is theirs.
use Rattle.std.proofs.Common.{◌≡◌, ◌+◌, ◌*◌, [], length}
use Rattle.meaning.specs.Table.{at1}
use Rattle.meaning.specs.Search.{every}
use Rattle.partials.specs.Dual.{dual}
use Rattle.solve.specs.Rows.{flat}
use Rattle.solve.specs.Stored.{all_fine}
use Rattle.fit_partials.specs.Stored.{Laid, found_fit_row, found_fit_rows}
use Rattle.fit_partials.proofs.System.fill.Given as goal

abbrev pub invariant-loop-r : goal.invariant-loop-r
invariant-loop-r l =
    let s = l.self in
    let n = length s.p.now in
    Laid l.c 0 (l.r * (n + 2 + 2)) (at1 dual (flat (found_fit_rows s.k.now s.u.now s.p.now s.q.now n) [])) l.initial.w l.initial.ns l.w l.ns
    × (l.fine ≡ every l.r (λ i. all_fine dual (found_fit_row s.k.now s.u.now s.p.now s.q.now n i)))
