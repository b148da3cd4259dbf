-- `solve::work::Plain::column` meets its contract: the numbers of the rows passed are copied.
use mathlib.Core.Path.{◌≡◌, ap}
use mathlib.Core.List.{List, ◌++◌}
use native.Mathlib.Omega.{arith}
use lib.ListN.{length, take, drop, length-replicate}
use lib.Seq.{length-take-le}
use lib.Ieee.{Float}
use Rattle.meaning.specs.Scalar.{plain, zero64}
use Rattle.meaning.proofs.Filling.{empty, filled, full}
use Rattle.solve.specs.Outcome.{column, zeros}
use Rattle.solve.proofs.work.Plain.column.Goals as goal

pub loop-r-init : goal.loop-r-init
loop-r-init c =
    let s = c.args.self.now in
    let long : length (take s.order.rows (zeros plain)) ≡ s.order.rows =
    length-take-le s.order.rows (zeros plain) (omega (arith, s.order.permutes.few, length-replicate 66 zero64)) in
    (empty long, long)

pub loop-r-preserved : goal.loop-r-preserved
loop-r-preserved c =
    let i = c.loop-r.invariant in
    (filled i.0 (omega (arith, c.loop-r-test.true, i.1)) c.number.ensures, i.1)

pub returns : goal.returns
unfolding column
returns c =
    let i = c.loop-r.invariant in
    ap (λ (t : List Float). t ++ drop c.args.self.now.order.rows (zeros plain)) (full i.0 (omega (arith, c.loop-r-test.false, i.1)))
