-- `polygon::length` meets its contract: a NaN where a corner is missing.
use mathlib.Core.Path.{◌∙◌}
use native.Mathlib.Omega.{arith}
use lib.Ieee.{div, of_bits}
use Rattle.polygon.proofs.Corners.{no_edges, row-length, missing_x, missing_y}
use Rattle.polygon.proofs.length.Goals as goal

pub returns-then-n-lt2 : goal.returns-then-n-lt2
returns-then-n-lt2 c = no_edges _ _ c.if-n-lt2.true

pub returns-then-xs-n : goal.returns-then-xs-n
unfolding div of_bits
returns-then-xs-n c = let a = c.args in missing_x a.xs.now a.ys.now a.n (omega arith) c.if-xs-n.true

pub returns-then-ys-n : goal.returns-then-ys-n
unfolding div of_bits
returns-then-ys-n c = let a = c.args in missing_y a.xs.now a.ys.now a.n (omega arith) c.if-ys-n.true

pub edges-requires : goal.edges-requires
edges-requires c = record {
  fact_1 = omega arith;
  fact_2 = omega arith;
  fact_3 = omega arith;
  fact_4 = omega arith;
}

pub returns : goal.returns
returns c = let a = c.args in c.edges.ensures ∙ row-length a.xs.now a.ys.now a.n
