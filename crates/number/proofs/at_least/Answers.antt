-- `number::at_least` meets its contract.
use mathlib.Core.Path.{ap}
use mathlib.Core.Bool.{not}
use Rattle.number.proofs.at_least.Goals as goal

pub returns : goal.returns
returns c = ap not c.is_smaller.ensures
