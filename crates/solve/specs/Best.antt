-- Inner: the pivot's row as a loop over the rows finds it, over any scalar.
use Rattle.std.specs.Prelude.{cond, List, ℕ, ◌+◌}
use Rattle.meaning.specs.Scalar.{Ops}
use Rattle.meaning.specs.Number.{at_least}
use Rattle.meaning.specs.Loops.{turns}
use Rattle.meaning.specs.Table.{at2}

module _ {A : Type 0} (o : Ops A) where
  -- row r, if its number k is at least in size that of the best row so far
  abbrev pub better : List (List A) → ℕ → ℕ → ℕ → ℕ
  better M k r best = cond (at_least (o.val (at2 o M r k)) (o.val (at2 o M best k))) r best

  -- of row lo and the n rows after it the one whose number k is the greatest in size, the last of equals
  unfoldable pub best_among : List (List A) → ℕ → ℕ → ℕ → ℕ
  unfolding turns
  best_among M k lo n = turns (lo + 1) n (better M k) lo
