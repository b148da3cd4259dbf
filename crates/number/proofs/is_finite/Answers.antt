-- `number::is_finite` meets its contract: a number less itself is zero just where it is finite.
use Rattle.meaning.proofs.Zeros.{less_itself}
use Rattle.number.proofs.is_finite.Goals as goal

pub returns : goal.returns
returns c = less_itself c.args.x
