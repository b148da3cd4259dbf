-- Inner: a value that lies in a cell as it is.
use Rattle.std.specs.Prelude.{◌≡◌, ℕ, ◌≤◌}
use Rattle.partials.specs.declared.Dv.{Dv}
use Rattle.partials.specs.Dual.{part_of}
use Rattle.cells.specs.Cell.{value_of, headed}

-- it has at most c partials, and +0.0 past them
pub record Normal (c : ℕ) (d : Dv) : Type 0 where
  pub few : d.n ≤ c
  pub whole : d ≡ value_of (headed d.v (part_of d)) d.n
