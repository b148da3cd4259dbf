-- `number::size` meets its contract.
use mathlib.Core.Path.{sym, subst}
use lib.Dec.{T}
use lib.Ieee.{binary64, fits}
use Rattle.number.proofs.Compared.{size_turned, size_zero, size_stays}
use Rattle.number.proofs.size.Goals as goal
use Rattle.number.proofs.size.Goals.{Start}

-- an `f64` is a double
double : (c : Start) → T (fits binary64 c.args.x)
double c = subst T (sym c.well_formed.0.1) tt

pub returns-then-x : goal.returns-then-x
returns-then-x c = size_turned _ c.if-x.true

pub returns-then-x-2 : goal.returns-then-x-2
returns-then-x-2 c = size_zero _ (double (goal.at.returns-then-x-2 c).Start) c.if-x-2.true

pub returns : goal.returns
returns c = size_stays _ c.if-x.false c.if-x-2.false
