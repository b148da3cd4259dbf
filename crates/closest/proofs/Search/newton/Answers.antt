-- `Search::newton` meets its contract: the laws of a `while` loop, with the rounds that are left as its measure.
use mathlib.Core.Path.{◌≡◌, refl, ap}
use Prim.Native.Nat.{◌+◌, ◌-◌}
use native.Mathlib.Omega.{arith}
use borrow.Author.Tests.{lt-ltb, le-ltb}
use Rattle.meaning.proofs.While.{begin, turn, end}
use Rattle.closest.specs.Search.{Progress, newton_from}
use Rattle.closest.proofs.Falls.{round_falls}
use Rattle.closest.proofs.Search.newton.Goals as goal

pub loop-round-init : goal.loop-round-init
loop-round-init c = begin _ _ _ (round_falls _ _) _

pub loop-round-preserved : goal.loop-round-preserved
loop-round-preserved c =
    let k = c.loop-round._round in
    let fewer : 30 - (k + 1) ≡ 30 - k - 1 = omega arith in
    turn _ _ _ (round_falls _ _) c.loop-round.invariant (lt-ltb _ _ (omega (arith, c.loop-round-test.true)))
    (rw fewer (c.in-On.ensures (30 - k)))

pub returns-in-Last : goal.returns-in-Last
unfolding newton_from
returns-in-Last c =
    let k = c.loop-round._round in
    ap (λ (x : Progress). x.t)
    (end _ _ _ (round_falls _ _)
    (turn _ _ _ (round_falls _ _) c.loop-round.invariant (lt-ltb _ _ (omega (arith, c.loop-round-test.true))) (c.in-Last.ensures (30 - k))) refl)

pub returns : goal.returns
unfolding newton_from
returns c = ap (λ (x : Progress). x.t) (end _ _ _ (round_falls _ _) c.loop-round.invariant (le-ltb _ _ (omega (arith, c.loop-round-test.false))))
