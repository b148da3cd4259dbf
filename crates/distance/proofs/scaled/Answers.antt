-- `distance::scaled` meets its contract.
use native.Mathlib.Omega.{arith}
use mathlib.Core.Path.{refl, sym, subst}
use lib.Dec.{T}
use lib.Ieee.{binary64, fits}
use Rattle.distance.proofs.Powers.{scaled_once, scaled_twice}
use Rattle.distance.proofs.scaled.Goals as goal
use Rattle.distance.proofs.scaled.Goals.{Start}

-- x is a double, as any `f64` is
held : (c : Start) → T (fits binary64 c.args.x)
held c = subst T (sym c.well_formed.0.1) tt

pub returns-then-j-lt51 : goal.returns-then-j-lt51
returns-then-j-lt51 c =
    scaled_twice c.args.x (held (goal.at.returns-then-j-lt51 c).Start) c.requires.0 c.power.result c.power-then-j-lt51.result _ c.args.j c.if-j-lt51.true c.requires.1 c.power.ensures c.power-then-j-lt51.ensures
    refl refl

pub returns-else-j-lt51 : goal.returns-else-j-lt51
returns-else-j-lt51 c =
    scaled_once c.args.x (held (goal.at.returns-else-j-lt51 c).Start) c.requires.0 c.power-else-j-lt51.result c.args.j (omega (arith, c.requires.2)) c.power-else-j-lt51.ensures refl
