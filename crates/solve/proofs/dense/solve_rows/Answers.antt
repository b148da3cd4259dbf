-- `solve::dense::solve_rows` meets its contract: the elimination, and back substitution on what it leaves.
use mathlib.Core.Path.{subst}
use Prim.Native.Nat.{ℕ}
use lib.ListN.{length}
use Rattle.solve.specs.Left.{Becomes}
use Rattle.solve.specs.Substitution.{backed}
use Rattle.solve.specs.Verdicts.{backed_ok}
use Rattle.solve.proofs.Stored.{solve_comes}
use Rattle.solve.proofs.dense.solve_rows.Goals as goal

pub returns : goal.returns
returns g c =
    let a = c.args in
    let o = g.R.Rows.ops in
    let M = g.R.Rows.rows a.rows.now in
    let one = c.eliminate-first in
    let two = c.substitute-second in
    let second = subst
    (λ (m : ℕ). Becomes (backed o m m) (backed_ok o m m) (g.R.Rows.rows one.new.rows) (g.R.Rows.rows two.new.rows) two.result)
    (g.met.R.Rows.as_many a.rows.now one.new.rows one.ensures.same) two.ensures.rows in
    record {
      rows = solve_comes o (length M) M one.ensures.shape one.ensures.rows second c.both.ensures;
      same = g.met.R.Rows.along a.rows.now one.new.rows two.new.rows one.ensures.same two.ensures.same;
    }
