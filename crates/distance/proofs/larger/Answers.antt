-- `distance::larger` meets its contract.
use mathlib.Core.Path.{sym, subst}
use lib.Dec.{T}
use lib.Ieee.{binary64, fits}
use Rattle.distance.proofs.Lengths.{first, second}
use Rattle.distance.proofs.larger.Goals as goal
use Rattle.distance.proofs.larger.Goals.{Start}

-- x is a double, as any `f64` is, and y
held_x : (c : Start) → T (fits binary64 c.args.x)
held_x c = subst T (sym c.well_formed.0.1) tt

held-y : (c : Start) → T (fits binary64 c.args.y)
held-y c = subst T (sym c.well_formed.1.0.1) tt

pub returns-then-x-y : goal.returns-then-x-y
returns-then-x-y c = (c.requires.1, second c.args.x c.args.y (held_x (goal.at.returns-then-x-y c).Start) (held-y (goal.at.returns-then-x-y c).Start) c.requires.0 c.requires.1 c.if-x-y.true)

pub returns : goal.returns
returns c = (c.requires.0, first c.args.x c.args.y (held_x (goal.at.returns c).Start) (held-y (goal.at.returns c).Start) c.requires.0 c.requires.1 c.if-x-y.false)
