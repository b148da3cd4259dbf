-- `residual::constants` meets its contract: each constant is made by its index.
use Rattle.std.proofs.Common.{rules}
use Prim.Native.Nat.{◌+◌, ◌-◌}
use Rattle.meaning.specs.Scalar.{plain}
use Rattle.meaning.specs.Table.{at1}
use Rattle.meaning.proofs.Made.{made}
use Rattle.partials.specs.Dual.{cst_dv, dual}
use Rattle.residual.proofs.constants.Goals as goal

pub returns : goal.returns
returns c =
    let a = c.args in
    made _ (λ j. cst_dv (at1 plain a.u.now (a.i - 2 + j))) dual.off (λ i y q k. search rules) c.from_fn.ensures.items
