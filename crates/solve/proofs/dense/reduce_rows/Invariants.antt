-- `solve::dense::reduce_rows` meets its contract: the rows below r are reduced, the flag is their verdict, and row col is kept.
use mathlib.Core.List.{[]}
use mathlib.Core.Path.{◌≡◌}
use lib.ListN.{length, get_or}
use Rattle.solve.proofs.Reducing.{Reducing}
use Rattle.solve.proofs.dense.reduce_rows.Given as goal

abbrev pub invariant-loop-r : goal.invariant-loop-r
invariant-loop-r g l =
    let M = g.R.Rows.rows l.initial.rows in
    let m = length M in
    Reducing g.R.Rows.ops m m l.col (get_or M l.col []) M l.r (g.R.Rows.rows l.rows) l.fine × g.R.Rows.kept l.rows l.col l.pivot
    × g.R.Rows.same l.initial.rows l.rows × (l.m ≡ m)
