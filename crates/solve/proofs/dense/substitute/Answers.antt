-- `solve::dense::substitute` meets its contract: the last i rows are answered, and the flag is their verdict.
use mathlib.Core.Path.{subst}
use Prim.Native.Nat.{ℕ, ◌<◌}
use native.Mathlib.Omega.{arith}
use lib.ListN.{length}
use Rattle.solve.specs.Left.{Becomes}
use Rattle.solve.specs.Substitution.{answered_up, backed}
use Rattle.solve.specs.Verdicts.{answered_up_ok, backed_ok}
use Rattle.solve.proofs.Passes.{begun, further, over}
use Rattle.solve.proofs.dense.substitute.Goals as goal

pub loop-i-init : goal.loop-i-init
loop-i-init g c = (begun, g.met.R.Rows.again c.args.rows.now, c.count-i-end.ensures.count)

pub loop-i-preserved : goal.loop-i-preserved
loop-i-preserved g c =
    let a = c.args in
    let o = g.R.Rows.ops in
    let l = c.loop-i in
    let i = l.invariant in
    let call = c.answer in
    let many = g.met.R.Rows.as_many a.rows.now l.rows i.1 in
    let h : l.i < length (g.R.Rows.rows a.rows.now) = omega (arith, c.loop-i-test.true, i.2) in
    let does = subst
    (λ (m : ℕ). Becomes (answered_up o m l.i) (answered_up_ok o m l.i) (g.R.Rows.rows l.rows) (g.R.Rows.rows call.new.self) call.result)
    many (call.ensures.rows (omega (arith, h, many))) in
    (further i.0 h does c.both-fine.ensures, g.met.R.Rows.along a.rows.now l.rows call.new.self i.1 call.ensures.same, i.2)

pub returns : goal.returns
unfolding backed backed_ok
returns g c =
    let i = c.loop-i.invariant in
    record {
      rows = over i.0 (omega (arith, c.loop-i-test.false, i.2));
      same = i.1;
    }
