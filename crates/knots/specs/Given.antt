-- Knots that may be given.
use Rattle.std.specs.Prelude.{Bool, true, false, List, [], Option, Some, None, Float}

abbrev pub given : {A : Type 0} → Option A → Bool
given None = false
given (Some k) = true

-- the list, where `now` tells what a reference points to
abbrev pub given_list : {A : Type 0} → (A → List Float) → Option A → List Float
given_list now None = []
given_list now (Some k) = now k
