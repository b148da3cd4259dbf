-- `fit_partials::blank` meets its contract: a turn clears one cell.
use mathlib.Core.Path.{◌≡◌, sym, subst}
use Prim.Native.Nat.{◌+◌}
use native.Mathlib.Omega.{arith}
use Rattle.meaning.specs.Scalar.{zero64}
use Rattle.partials.specs.Dual.{cst_dv}
use Rattle.cells.specs.Normal.{Normal}
use Rattle.fit_partials.proofs.Tidy.{zero_normal}
use Rattle.fit_partials.proofs.Laid.{room_there, room_part, laid_none, laid_one, laid_join}
use Rattle.fit_partials.proofs.blank.Goals as goal

pub loop-k-init : goal.loop-k-init
loop-k-init c = (laid_none _ _ _ _ _, omega arith)

pub loop-k-preserved : goal.loop-k-preserved
loop-k-preserved c =
    let l = c.loop-k in
    let a = c.args in
    let r = room_part a.c a.at a.n (a.at + l.k) 1 {w' = l.w} {ns' = l.ns} c.requires (omega (arith, c.loop-k-test.true)) l.invariant.0.doubles l.invariant.0.bytes in
    let d = c.cst-zero.result in
    let one = laid_one a.c _ _ (a.at + l.k) d (room_there a.c (a.at + l.k) _ _ r)
    (subst (Normal a.c) (sym c.cst-zero.ensures) (zero_normal a.c r.narrow)) c.put.ensures.fact_1 c.put.ensures.fact_2 in
    (laid_join a.c a.at l.k 1 (λ j. cst_dv zero64) (λ j. d) l.invariant.0 one (λ j h. c.cst-zero.ensures), omega arith)

pub returns : goal.returns
returns c =
    let l = c.loop-k in
    let n = c.args.n in
    let e : l.k ≡ n = omega arith in
    rw e at l.invariant.0
