-- `solve::work::subtract_row` meets its contract: the numbers below k are subtracted, and the flag is up where one of them is not finite.
use Prim.Native.Nat.{ℕ, ◌<◌}
use native.Mathlib.Omega.{arith}
use mathlib.Core.Path.{◌≡◌, refl, ap, ◌∙◌}
use mathlib.Core.Bool.{not, not-not}
use lib.ListN.{length}
use lib.Ieee.Scale.{finite}
use Rattle.meaning.specs.Scalar.{plain}
use Rattle.meaning.specs.Search.{every}
use Rattle.solve.specs.Verdicts.{subtracted_ok, fine_at}
use Rattle.meaning.proofs.Every.{spoilt_next}
use Rattle.solve.proofs.Lists.{blend_all}
use Rattle.solve.proofs.Steps.{sub_length, sub_start, sub_value, sub_turn, fine_start, fine-at}
use borrow.Author.Rules.{rules}
use Rattle.solve.proofs.work.subtract_row.Goals as goal

pub loop-k-init : goal.loop-k-init
loop-k-init c =
    let a = c.args in
    (sub_start plain _ _ _ a.p.now _ c.requires.0, ap not (fine_start plain a.n a.col a.f a.p.now a.t.now), omega arith, omega arith, refl)

pub loop-k-preserved : goal.loop-k-preserved
loop-k-preserved c =
    let l = c.loop-k in
    let a = c.args in
    let room : l.k < length a.t.now = omega (arith, c.loop-k-test.true, c.requires) in
    let is = sub_value plain a.n a.col a.f a.p.now a.t.now l.t l.k _ l.invariant.0 l.invariant.2 c.less_by-v.ensures in
    let fine = c.is_finite.ensures ∙ ap finite is ∙ fine-at plain a.n a.col a.f a.p.now a.t.now l.k l.invariant.2 in (
      sub_turn plain a.n a.col a.f a.p.now a.t.now l.t l.k _ l.invariant.0 room is,
      spoilt_next (fine_at plain a.n a.col a.f a.p.now a.t.now) l.k l.invariant.1 fine c.either-spoilt.ensures,
      omega arith,
      omega arith,
      search rules,
    )

pub returns : goal.returns
unfolding subtracted_ok
returns c =
    let a = c.args in
    let l = c.loop-k in
    let e : l.k ≡ length a.t.now = omega (arith, c.requires) in
    let p = fine_at plain a.n a.col a.f a.p.now a.t.now in (
      l.invariant.0 ∙ blend_all _ a.t.now l.k (sub_length plain a.n a.col a.f a.p.now a.t.now) (omega arith),
      ap not l.invariant.1 ∙ not-not (every l.k p) ∙ ap (λ (k : ℕ). every k p) e,
    )
