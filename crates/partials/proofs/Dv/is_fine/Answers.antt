-- `partials::Dv::is_fine` meets its contract: the flag falls at a partial that is not finite, and stays down.
use mathlib.Core.Path.{◌≡◌}
use native.Mathlib.Omega.{arith}
use Prim.Native.Nat.{◌<◌}
use lib.ListN.{length, take}
use borrow.Author.Rules.{rules}
use Rattle.std.proofs.lemmas.List.{get_or-take, length-take}
use Rattle.meaning.proofs.For.{first, next, last}
use Rattle.partials.specs.Dual.{fine_dv}
use Rattle.partials.proofs.Dv.is_fine.Goals as goal

pub loop-x-init : goal.loop-x-init
loop-x-init c = first (omega arith)

pub loop-x-preserved : goal.loop-x-preserved
loop-x-preserved c =
    let here : c.loop-x.x-index < c.count.result = omega (arith, length-take c.count.result c.args.self.g) in
    next c.loop-x.invariant (omega arith)
    (rw (c.is_finite-fine-in-loop-x.ensures, get_or-take))

pub returns : goal.returns
unfolding fine_dv
returns c =
    let h = c.well_formed in
    let full : length c.args.self.g ≡ 27 = search rules in
    let all : length (take c.count.result c.args.self.g) ≡ c.count.result = omega (arith, length-take c.count.result c.args.self.g) in
    rw (all, c.is_finite-fine.ensures, c.count.ensures.0) at (last c.loop-x.invariant (omega arith))
