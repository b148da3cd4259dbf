-- `solve::dense::eliminate` meets its contract: the columns below col are eliminated, and the flag is their verdict.
use mathlib.Core.Path.{◌≡◌}
use lib.ListN.{length}
use Rattle.solve.specs.Elimination.{column_done}
use Rattle.solve.specs.Verdicts.{column_ok}
use Rattle.solve.proofs.Passes.{Pass}
use Rattle.solve.proofs.dense.eliminate.Given as goal

abbrev pub invariant-loop-col : goal.invariant-loop-col
invariant-loop-col g l =
    let M = g.R.Rows.rows l.initial.rows in
    let o = g.R.Rows.ops in
    let m = length M in
    Pass m (column_done o m) (column_ok o m) M l.col (g.R.Rows.rows l.rows) l.fine × g.R.Rows.same l.initial.rows l.rows × (l.col-end ≡ m)
