-- Inner: corners whose coordinates stand in two slices, `step` numbers apart, or in one slice x, y in turn.
use Rattle.std.specs.Prelude.{List, ℕ, ◌+◌, ◌*◌, Float}
use Rattle.meaning.specs.Scalar.{plain}
use Rattle.meaning.specs.Table.{at1}
use Rattle.plane.specs.Vector.{Vector}

-- corner i
abbrev pub corner_at : ℕ → List Float → List Float → ℕ → Vector Float
corner_at step xs ys i = record { x = at1 plain xs (step * i); y = at1 plain ys (step * i) }

abbrev pub corner_in : List Float → ℕ → Vector Float
corner_in coords i = record { x = at1 plain coords (2 * i); y = at1 plain coords (2 * i + 1) }
