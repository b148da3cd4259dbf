-- `solve::dense::eliminate_column` meets its contract: the pivot's row comes to stand in row col, and the rows below are reduced by it.
use mathlib.Core.List.{[]}
use mathlib.Core.Path.{subst}
use Prim.Native.Nat.{ℕ, ◌<◌}
use native.Mathlib.Omega.{arith}
use lib.ListN.{length, get_or}
use Rattle.solve.specs.Left.{Becomes}
use Rattle.solve.specs.Elimination.{reduced_rows}
use Rattle.solve.specs.Verdicts.{reduced_rows_ok}
use Rattle.solve.proofs.Pivots.{pivot_lt}
use Rattle.solve.proofs.Steps.{column_comes}
use Rattle.solve.proofs.dense.eliminate_column.Goals as goal

pub reduce_rows-requires : goal.reduce_rows-requires
reduce_rows-requires g c =
    omega (arith, c.requires, g.met.R.Rows.as_many c.args.rows.now c.exchange.new.self c.exchange.ensures.same)

pub returns : goal.returns
returns g c =
    let a = c.args in
    let o = g.R.Rows.ops in
    let M = g.R.Rows.rows a.rows.now in
    let N = g.R.Rows.rows c.exchange.new.self in
    let m = length M in
    let best = c.find_pivot-best.result in
    let is = c.find_pivot-best.ensures c.requires in
    let within : best < m = omega (arith, is, pivot_lt o m a.col M c.requires) in
    let call = c.reduce_rows in
    let does = subst
    (λ (m : ℕ). Becomes (λ K. reduced_rows o m m a.col (get_or K a.col []) K) (λ K. reduced_rows_ok o m m a.col (get_or K a.col []) K) N
    (g.R.Rows.rows call.new.rows) call.result)
    (g.met.R.Rows.as_many a.rows.now c.exchange.new.self c.exchange.ensures.same) call.ensures.rows in
    record {
      rows = column_comes o m a.col M is (c.exchange.ensures.rows c.requires within) does;
      same = g.met.R.Rows.along a.rows.now c.exchange.new.self call.new.rows c.exchange.ensures.same call.ensures.same;
    }
