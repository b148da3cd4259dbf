-- `point::answer_point` meets its contract: the tests of what is asked, then the numbers delivered.
use mathlib.Core.Path.{refl, ap}
use borrow.Author.Tests.{lt-ltb, le-ltb}
use Rattle.outcome.proofs.Doors.{leaves, stop, pass, not_told}
use mathlib.Core.Bool.{not}
use Rattle.point.proofs.answer_point.Goals as goal

pub returns-then-not-is_finite : goal.returns-then-not-is_finite
returns-then-not-is_finite c = leaves (stop 11 refl (not_told c.is_finite.ensures (ap not c.if-not-is_finite.true)))

pub returns-then-order-gt4 : goal.returns-then-order-gt4
returns-then-order-gt4 c =
    leaves (pass 12 (not_told c.is_finite.ensures (ap not c.if-not-is_finite.false)) (stop 12 refl (lt-ltb _ _ c.if-order-gt4.true)))

pub returns : goal.returns
returns c =
    leaves
    (pass 12 (not_told c.is_finite.ensures (ap not c.if-not-is_finite.false))
    (pass 13 (le-ltb _ _ c.if-order-gt4.false) (record { is = c.deliver.ensures })))
