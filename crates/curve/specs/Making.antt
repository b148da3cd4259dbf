-- Inner: how a build goes on past the rules 1 to 14.
use Rattle.std.specs.Prelude.{Bool, not, ◌&&◌, List, [], ◌∷◌}
use Rattle.std.specs.Float.Ieee.Scale.{finite}
use Rattle.refusal.specs.Refusals.{Row, row}
use Rattle.curve.specs.declared.Curve.{Curve}
use Rattle.curve.specs.Build.{Built, building}

-- 15 alone is left, where `fine` tells whether every stored number is finite
abbrev pub last_rule : Bool → List Row
last_rule fine = row 15 (not fine) ∷ []

-- the curve, where `fine` tells it of all but the length
abbrev pub measuring : Bool → Curve → Built
measuring fine c = building (last_rule (fine && finite c.length)) c
