-- `solve::dense::eliminate` meets its contract: the columns below col are eliminated, and the flag is their verdict.
use mathlib.Core.Path.{subst}
use Prim.Native.Nat.{ℕ, ◌+◌, ◌<◌}
use native.Mathlib.Omega.{arith}
use lib.ListN.{length}
use Rattle.solve.specs.Rows.{Shaped}
use Rattle.solve.specs.Left.{Becomes}
use Rattle.solve.specs.Elimination.{column_done, eliminated}
use Rattle.solve.specs.Verdicts.{column_ok, eliminated_ok}
use Rattle.solve.proofs.Passes.{begun, further, over}
use Rattle.solve.proofs.dense.eliminate.Goals as goal

pub loop-col-init : goal.loop-col-init
loop-col-init g c = (begun, g.met.R.Rows.again c.args.rows.now, c.count-col-end.ensures.count)

pub eliminate_column-requires : goal.eliminate_column-requires
eliminate_column-requires g c =
    let l = c.loop-col in
    omega (arith, c.loop-col-test.true, l.invariant.2, g.met.R.Rows.as_many c.args.rows.now l.rows l.invariant.1)

pub loop-col-preserved : goal.loop-col-preserved
loop-col-preserved g c =
    let a = c.args in
    let o = g.R.Rows.ops in
    let l = c.loop-col in
    let i = l.invariant in
    let call = c.eliminate_column in
    let h : l.col < length (g.R.Rows.rows a.rows.now) = omega (arith, c.loop-col-test.true, i.2) in
    let does = subst
    (λ (m : ℕ). Becomes (column_done o m l.col) (column_ok o m l.col) (g.R.Rows.rows l.rows) (g.R.Rows.rows call.new.rows) call.result)
    (g.met.R.Rows.as_many a.rows.now l.rows i.1) call.ensures.rows in
    (further i.0 h does c.both-fine.ensures, g.met.R.Rows.along a.rows.now l.rows call.new.rows i.1 call.ensures.same, i.2)

pub returns : goal.returns
unfolding eliminated eliminated_ok
returns g c =
    let i = c.loop-col.invariant in
    record {
      shape = let e = c.count-col-end.ensures in subst (λ (m : ℕ). Shaped m (m + 2) (g.R.Rows.rows c.args.rows.now)) e.count e.shape;
      rows = over i.0 (omega (arith, c.loop-col-test.false, i.2));
      same = i.1;
    }
