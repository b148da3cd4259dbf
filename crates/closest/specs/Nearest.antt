-- The first of the nearest. docs/RULES.md, "Closest parameter", decides: the least distance, and on a tie the first.
use Rattle.std.specs.Prelude.{Bool, List, ℕ, length, Float}
use Rattle.std.specs.Float.Ieee.{le}
use Rattle.meaning.specs.Scalar.{plain}
use Rattle.meaning.specs.Table.{at1}
use Rattle.meaning.specs.Search.{seek, every}

-- numbers ts, and the distance of each
module _ (dist : Float → Float) (ts : List Float) where
  abbrev pub away : ℕ → Float
  away k = dist (at1 plain ts k)

  -- the distance of number k is at most that of each
  abbrev pub is_nearest : ℕ → Bool
  is_nearest k = every (length ts) (λ j. le (away k) (away j))

  -- the first such k
  unfoldable pub first_nearest : ℕ
  first_nearest = seek 0 (length ts) is_nearest
