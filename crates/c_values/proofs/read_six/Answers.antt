-- `c_values::read_six` meets its contract: each is read 28 numbers after the one before.
use Prim.Native.Nat.{◌*◌}
use lib.ListN.{get_or}
use borrow.Author.Rules.{rules}
use Rattle.meaning.proofs.Made.{made_of}
use Rattle.partials.specs.Dual.{dual}
use Rattle.c_values.specs.Crossing.{read_dv, read_six}
use Rattle.c_values.proofs.read_six.Goals as goal

pub returns : goal.returns
unfolding read_six
returns c =
    let a = c.args in
    made_of (λ i. read_dv a.s.now (28 * i) (get_or a.ns.now i 0)) dual.off c.from_fn.ensures.items (λ k y q e. (search rules, search rules))
