-- `solve_partials::cell::all_finite` meets its contract: the flag is up where one of the numbers passed is not finite.
use Prim.Native.Nat.{ℕ, ◌+◌}
use mathlib.Core.Path.{◌≡◌, ap, ◌∙◌}
use mathlib.Core.Bool.{Bool, not, not-not}
use native.Mathlib.Omega.{arith}
use lib.ListN.{length, take}
use lib.Seq.{get_or-take, length-take-le}
use lib.Ieee.{nan}
use lib.Ieee.Scale.{finite}
use Rattle.meaning.specs.Search.{every}
use Rattle.meaning.proofs.Every.{every-none, every_same, spoilt_next}
use Rattle.solve_partials.specs.Held.{numbered}
use Rattle.solve_partials.proofs.cell.all_finite.Goals as goal

pub loop-x-init : goal.loop-x-init
loop-x-init c = ap not (every-none _)

pub loop-x-preserved : goal.loop-x-preserved
loop-x-preserved c = spoilt_next _ c.loop-x.x-index c.loop-x.invariant c.is_finite.ensures c.either-spoilt.ensures

pub returns : goal.returns
returns c =
    let l = c.loop-x in
    let a = c.args in
    let p : ℕ → Bool = λ j. finite (numbered (take (a.n + 1) a.t.now) j) in
    let long : length (take (a.n + 1) a.t.now) ≡ a.n + 1 = length-take-le (a.n + 1) a.t.now (omega (arith, c.requires)) in
    let e : l.x-index ≡ a.n + 1 = omega (arith, c.loop-x-test.false, l.auto.x-index-end, long) in
    ap not l.invariant ∙ not-not (every l.x-index p) ∙ ap (λ (k : ℕ). every k p) e
    ∙ every_same (a.n + 1) _ _ (λ j h. ap finite (get_or-take (a.n + 1) a.t.now j nan h))
