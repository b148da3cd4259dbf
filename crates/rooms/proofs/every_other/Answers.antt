-- `rooms::every_other` meets its contract: each number is made by its index.
use Rattle.std.proofs.Common.{rules, tests}
use mathlib.Core.Bool.{cond}
use Prim.Native.Nat.{◌+◌, ◌*◌}
use lib.Dec.{ltb}
use lib.Ieee.{nan}
use Rattle.meaning.specs.Scalar.{plain, zero64}
use Rattle.meaning.specs.Table.{at1}
use Rattle.meaning.proofs.Made.{made}
use Rattle.shape.specs.Shape.{points_in, every_other}
use Rattle.rooms.proofs.every_other.Goals as goal

pub returns : goal.returns
unfolding every_other
returns c =
    let a = c.args in
    made _ (λ i. cond (ltb i (points_in a.coords.now)) (at1 plain a.coords.now (2 * i + a.off)) zero64) nan (λ i y q k. search (rules, tests)) c.from_fn.ensures.items
