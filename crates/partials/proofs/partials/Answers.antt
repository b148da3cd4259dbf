-- `partials::partials` meets its contract: each turn asks f for one partial.
use native.Mathlib.Omega.{arith}
use Rattle.meaning.proofs.Filling.{filled}
use Rattle.partials.proofs.Laid.{partials_laid}
use Rattle.partials.proofs.partials.Goals as goal

pub loop-k-preserved : goal.loop-k-preserved
loop-k-preserved g c =
    let i = c.loop-k.invariant in
    ((λ h p. filled (i.0 h p) (omega (arith, c.loop-k-test.true, i.1)) (p _ _ c.f.ensures)), i.1)

pub returns : goal.returns
returns g c h p =
    let i = c.loop-k.invariant in
    let f = i.0 h p in
    partials_laid c.args.n h c.loop-k.front c.requires.few f.long (λ j b. f.same j (omega (arith, c.loop-k-test.false, i.1)))
