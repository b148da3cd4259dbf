-- `rooms::stored_knots` meets its contract: there is no room for the knots of more than 66 control points.
use native.Mathlib.Omega.{arith}
use Rattle.rooms.proofs.Roomy.{too_many-knots}
use Rattle.rooms.proofs.stored_knots.Goals as goal

pub returns-else-n-lt67 : goal.returns-else-n-lt67
returns-else-n-lt67 c = rw c.in-Some.is (too_many-knots c.in-Some.list.now c.args.n (omega arith))
