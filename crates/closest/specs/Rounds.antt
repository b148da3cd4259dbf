-- Inner: what a round of the code leaves, as a parameter and how many rounds may follow.
use Rattle.std.specs.Prelude.{ℕ, ◌-◌}
use Rattle.closest.specs.declared.Round.{Round}
use Rattle.closest.specs.declared.Round.TheVariants.{Last, On}
use Rattle.closest.specs.Search.{Progress}

-- where so many might follow the one before
abbrev pub progress : Round → ℕ → Progress
progress (Last t) left = record { t = t; left = 0 }
progress (On t) left = record { t = t; left = left - 1 }
