-- Inner: the samples in a room of their own, from which they are delivered.
use Rattle.std.specs.Prelude.{List, [], ◌++◌, ℕ, length, drop, Float}
use Rattle.samples.specs.Samples.{samples_of}

-- how many samples there are, and the room afterwards
pub record Walked : Type 0 where
  pub count : ℕ
  pub room : List Float

abbrev pub walked : ℕ → List Float → Walked
walked k room = record { count = k; room = room }

-- the samples at the front of the room; the control points do not matter
unfoldable pub walk_of : ℕ → List Float → ℕ → List Float → Walked
walk_of n us per room =
    let l = samples_of (record { n = n; xs = []; ys = []; knots = us }) per in
    walked (length l) (l ++ drop (length l) room)
