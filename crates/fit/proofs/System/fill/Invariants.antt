-- `fit::System::fill` meets its contract: the rows below r are the system's, and the verdict is theirs.
use Rattle.std.proofs.Common.{◌≡◌, ◌+◌, length}
use Rattle.meaning.specs.Scalar.{plain}
use Rattle.meaning.specs.Search.{every}
use Rattle.solve.specs.Rows.{OfRows}
use Rattle.solve.specs.Stored.{all_fine}
use Rattle.fit.specs.Stored.{found_fit_row, found_fit_rows}
use Rattle.fit.proofs.Rows.{Written}
use Rattle.fit.proofs.System.fill.Given as goal

abbrev pub invariant-loop-r : goal.invariant-loop-r
invariant-loop-r l =
    let s = l.self in
    let n = length s.p.now in
    OfRows (n + 2) (n + 2 + 2) l.initial.w (λ M rest. Written (n + 2) (n + 2 + 2) (found_fit_rows s.u.now s.p.now s.q.now n) l.r M rest l.w)
    × (l.fine ≡ every l.r (λ k. all_fine plain (found_fit_row s.u.now s.p.now s.q.now n k)))
    × (length l.w ≡ length l.initial.w)
