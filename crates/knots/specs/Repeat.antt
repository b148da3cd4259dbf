-- Inner: what the code looks for in place of the counts of rule 10. That it is found where the rule applies, once the rules before it do not,
-- is shown in `proofs/Repeats.antt`; a reader of the rules needs `Rules.antt` alone.
use Rattle.std.specs.Prelude.{Bool, List, ℕ, ◌+◌, Float}
use Rattle.std.specs.Float.Ieee.{eq}
use Rattle.knots.specs.Rules.{knot}

-- knot j equals the third after it
abbrev pub repeats : List Float → ℕ → Bool
repeats ks j = eq (knot ks j) (knot ks (j + 3))
