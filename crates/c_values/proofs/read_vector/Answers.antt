-- `c_values::read_vector` meets its contract.
use Rattle.c_values.specs.Crossing.{read_v}
use Rattle.c_values.proofs.read_vector.Goals as goal

pub returns : goal.returns
unfolding read_v
returns c =
    rw (c.read-2.ensures, c.count_at-2.ensures, c.read.ensures, c.count_at.ensures)
