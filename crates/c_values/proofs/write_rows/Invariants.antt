-- `c_values::write_rows` meets its contract: a turn puts one value and its count. A need of numbers is a law over them alone: a turn's record holds all
-- that is known of twenty values. Assumes nothing.
use mathlib.Core.Path.{◌≡◌}
use Prim.Native.Nat.{◌≤◌}
use lib.ListN.{length}
use lib.Seq.{paste}
use Rattle.meaning.specs.Search.{listed}
use Rattle.c_values.specs.Crossing.{value_of}
use Rattle.c_values.proofs.Rows.{Written}
use Rattle.c_values.proofs.write_rows.Given as goal

abbrev pub invariant-loop-i : goal.invariant-loop-i
invariant-loop-i l =
    (length l.out ≡ length l.initial.out) × (length l.counts ≡ length l.initial.counts) × (l.i ≤ 20)
    × Written (listed 0 l.i (value_of l.rows)) l.initial.out l.out
    × (l.counts ≡ paste l.initial.counts 0 (listed 0 20 (λ j. (value_of l.rows j).n)) l.i)
