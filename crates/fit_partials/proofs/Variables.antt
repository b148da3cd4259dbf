-- The handles' numbers as variables. Assumes nothing.
use mathlib.Core.Path.{◌≡◌}
use mathlib.Core.List.{List}
use Prim.Native.Nat.{ℕ, ◌<◌}
use lib.ListN.{length}
use lib.Ieee.{Float}
use Rattle.meaning.specs.Table.{at1}
use Rattle.meaning.proofs.Filling.{nth_listed}
use Rattle.partials.specs.Dual.{var_dv, dual}
use Rattle.fit_partials.specs.Variables.{variables_of}

pub variable_at : (q : List Float) (i : ℕ) → i < length q → at1 dual (variables_of q) i ≡ var_dv q i
unfolding variables_of
variable_at q i h = nth_listed (length q) i (var_dv q) dual.off h
