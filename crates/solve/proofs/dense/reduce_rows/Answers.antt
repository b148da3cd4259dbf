-- `solve::dense::reduce_rows` meets its contract: the rows below r are reduced, the flag is their verdict, and row col is kept.
use mathlib.Core.List.{[]}
use mathlib.Core.Path.{refl, subst}
use Prim.Native.Nat.{ℕ, ◌<◌}
use native.Mathlib.Omega.{arith}
use lib.ListN.{length, get_or, set}
use Rattle.solve.specs.Left.{Becomes}
use Rattle.solve.specs.Elimination.{reduced}
use Rattle.solve.specs.Verdicts.{reduced_ok}
use Rattle.solve.proofs.Reducing.{reducing_start, reducing_by, reducing_end}
use Rattle.solve.proofs.dense.reduce_rows.Goals as goal

pub loop-r-init : goal.loop-r-init
loop-r-init g c =
    let M = g.R.Rows.rows c.args.rows.now in
    let m = length M in (
      reducing_start g.R.Rows.ops m m c.args.col (get_or M c.args.col []) M refl c.requires,
      c.pivot_row-pivot.ensures c.requires,
      g.met.R.Rows.again c.args.rows.now,
      c.count-m.ensures.count,
    )

pub loop-r-preserved : goal.loop-r-preserved
loop-r-preserved g c =
    let a = c.args in
    let o = g.R.Rows.ops in
    let M = g.R.Rows.rows a.rows.now in
    let l = c.loop-r in
    let N = g.R.Rows.rows l.rows in
    let i = l.invariant in
    let call = c.reduce.ensures in
    let many = g.met.R.Rows.as_many a.rows.now l.rows i.2 in
    let h : l.r < length M = omega (arith, c.loop-r-test.true, i.3) in
    let there : l.r < length N = omega (arith, h, many) in
    let does = subst
    (λ (m : ℕ). Becomes (λ K. set K l.r (reduced o m a.col (get_or K a.col []) (get_or K l.r [])))
    (λ K. reduced_ok o m a.col (get_or K a.col []) (get_or K l.r [])) N (g.R.Rows.rows c.reduce.new.self) c.reduce.result)
    many (call.rows i.1 i.0.below there) in (
      reducing_by o (length M) (length M) a.col (get_or M a.col []) M refl refl i.0 h does c.both-fine.ensures,
      call.kept i.1 i.0.below there,
      g.met.R.Rows.along a.rows.now l.rows c.reduce.new.self i.2 call.same,
      i.3,
    )

pub returns : goal.returns
returns g c =
    let M = g.R.Rows.rows c.args.rows.now in
    let m = length M in
    let i = c.loop-r.invariant in
    record {
      rows = reducing_end g.R.Rows.ops m m c.args.col (get_or M c.args.col []) M refl i.0 (omega (arith, c.loop-r-test.false, i.3));
      same = i.2;
    }
