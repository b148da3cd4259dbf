-- `points::answer_each` meets its contract: a turn answers one parameter.
use mathlib.Core.Path.{refl}
use native.Mathlib.Omega.{arith}
use Rattle.many.proofs.Asked.{asked_all}
use Rattle.points.proofs.Turns.{turned_first, turned_next}
use Rattle.points.proofs.answer_each.Goals as goal

pub loop-k-init : goal.loop-k-init
loop-k-init g c = turned_first refl

pub loop-k-preserved : goal.loop-k-preserved
loop-k-preserved g c =
    rw c.number_of.ensures
    (turned_next c.requires.fits c.loop-k.invariant c.loop-k-test.true (c.orders-room.ensures c.requires.passed) (omega arith) c.answer_point-answer.ensures)

pub returns : goal.returns
returns g c = asked_all c.loop-k.invariant.asked (omega (arith, c.loop-k.invariant.low))
