-- `c_curves::read_curve` meets its contract.
use Rattle.c_curves.specs.Curves.{room_of, read_curve}
use Rattle.c_curves.proofs.read_curve.Goals as goal

pub returns : goal.returns
unfolding room_of read_curve
returns c = rw (c.fill-3.ensures, c.fill-2.ensures, c.fill.ensures)
