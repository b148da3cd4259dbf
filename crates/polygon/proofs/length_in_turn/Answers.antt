-- `polygon::length_in_turn` meets its contract.
use mathlib.Core.Path.{◌≡◌, ap, ◌∙◌}
use mathlib.Core.List.{List}
use Prim.Native.Nat.{ℕ, ◌+◌, ◌-◌, ◌/◌}
use native.Mathlib.Omega.{arith}
use lib.ListN.{length, take, drop, length-drop}
use lib.Seq.{get_or-drop, take_all}
use lib.Ieee.{Float, nan}
use Rattle.meaning.specs.Scalar.{plain}
use Rattle.meaning.specs.Table.{at1}
use Rattle.polygon.proofs.Corners.{no_edges, turn_length}
use Rattle.polygon.proofs.length_in_turn.Goals as goal

-- from the second number on, as the code lends it
second : (coords : List Float) (j : ℕ) → at1 plain (take (length coords - 1) (drop 1 coords)) j ≡ at1 plain coords (1 + j)
second coords j =
    let l = length-drop 1 coords in
    ap (λ (x : List Float). at1 plain x j) (take_all (length coords - 1) (drop 1 coords) (omega arith)) ∙ get_or-drop 1 coords j nan

pub returns-then-coords-lt4 : goal.returns-then-coords-lt4
returns-then-coords-lt4 c = no_edges _ _ (omega arith)

pub edges-requires : goal.edges-requires
edges-requires c =
    let a = c.args in
    let l = length-drop 1 a.coords.now in record {
      fact_1 = omega arith;
      fact_2 = omega arith;
      fact_3 = omega arith;
      fact_4 = omega arith;
    }

pub returns : goal.returns
returns c = let q = c.args.coords.now in c.edges.ensures ∙ turn_length q (take (length q - 1) (drop 1 q)) (length q / 2) (second q)
