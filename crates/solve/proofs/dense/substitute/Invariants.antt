-- `solve::dense::substitute` meets its contract: the last i rows are answered, and the flag is their verdict.
use mathlib.Core.Path.{◌≡◌}
use lib.ListN.{length}
use Rattle.solve.specs.Substitution.{answered_up}
use Rattle.solve.specs.Verdicts.{answered_up_ok}
use Rattle.solve.proofs.Passes.{Pass}
use Rattle.solve.proofs.dense.substitute.Given as goal

abbrev pub invariant-loop-i : goal.invariant-loop-i
invariant-loop-i g l =
    let M = g.R.Rows.rows l.initial.rows in
    let o = g.R.Rows.ops in
    let m = length M in
    Pass m (answered_up o m) (answered_up_ok o m) M l.i (g.R.Rows.rows l.rows) l.fine × g.R.Rows.same l.initial.rows l.rows × (l.i-end ≡ m)
