-- Inner: a curve past its rules, of which private contracts speak.
use Rattle.std.specs.Prelude.{List, [], ℕ, Float}
use Rattle.shape.specs.Offered.{Offered}

-- nothing is left that would refuse it
abbrev pub trusting : ℕ → List Float → List Float → List Float → Offered
trusting n xs ys us = record { rules = []; shape = record { n = n; xs = xs; ys = ys; knots = us } }
