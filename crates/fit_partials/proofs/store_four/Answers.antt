-- `fit_partials::store_four` meets its contract: a turn stores one number and judges it.
use Rattle.std.proofs.Common.{◌≡◌, refl, ap, arith, ◌+◌}
use Rattle.meaning.specs.Table.{at1}
use Rattle.partials.specs.Dual.{dual}
use Rattle.fit_partials.proofs.Laid.{room_part, stored_none, stored_join}
use Rattle.fit_partials.proofs.store_four.Goals as goal

pub loop-k-init : goal.loop-k-init
loop-k-init c = stored_none _ _ _ _ _

pub store-fine-requires : goal.store-fine-requires
store-fine-requires c =
    let l = c.loop-k in
    let a = c.args in
    let done = l.invariant.laid in record {
      fact_1 = room_part a.c a.at 4 (a.at + l.k) 1 c.requires.fact_1 (omega (arith, c.loop-k-test.true)) done.doubles done.bytes;
      fact_2 = c.requires.fact_2 l.k;
    }

pub loop-k-preserved : goal.loop-k-preserved
loop-k-preserved c =
    let l = c.loop-k in
    let a = c.args in
    let four = at1 dual a.four.now in
    stored_join a.c a.at l.k 1 four (λ j. four l.k) l.invariant c.store-fine.ensures
    (λ j h. let e : l.k ≡ l.k + j = omega arith in ap four e) refl

pub returns : goal.returns
returns c =
    let l = c.loop-k in
    let e : l.k ≡ 4 = omega arith in
    rw e at l.invariant
