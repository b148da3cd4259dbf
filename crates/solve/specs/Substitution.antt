-- Back substitution on a list of rows, over any scalar: a row's two right sides give way to its answers, from the last row up. docs/RULES.md,
-- "Solve", decides, and the original's operation order.
use Rattle.std.specs.Prelude.{List, [], ℕ, ◌+◌, ◌-◌, get_or}
use Rattle.std.proofs.Math.ListN.{set}
use Rattle.meaning.specs.Scalar.{Ops, one64}
use Rattle.meaning.specs.Loops.{turns}
use Rattle.meaning.specs.Table.{at2}
use Rattle.solve.specs.Elimination.{eliminated}

module _ {A : Type 0} (o : Ops A) where
  -- x less the term of the row i + 1 below row r, whose answer stands at c. Row r's own number stands at d, and the factors after it.
  abbrev pub less_term : List (List A) → ℕ → ℕ → ℕ → ℕ → A → A
  less_term M r c d i x = o.minus x (o.times (at2 o M (r + 1 + i) c) (at2 o M r (d + 1 + i)))

  -- right side c of row r less the terms of the n rows below it, in rising order
  unfoldable pub remains : List (List A) → ℕ → ℕ → ℕ → ℕ → A
  unfolding turns
  remains M r c d n = turns 0 n (less_term M r c d) (at2 o M r c)

  unfoldable pub answer : List (List A) → ℕ → ℕ → ℕ → ℕ → A
  unfolding remains
  answer M r c d n = o.times (remains M r c d n) (o.over (o.cst one64) (at2 o M r d))

  -- row r with its answers, in rows of k matrix numbers
  unfoldable pub answered : ℕ → List (List A) → ℕ → ℕ → ℕ → List (List A)
  unfolding answer
  answered k M r d n = set M r (set (set (get_or M r []) k (answer M r k d n)) (k + 1) (answer M r (k + 1) d n))

  -- of m rows of m matrix numbers the row with i rows below it, answered
  abbrev pub answered_up : ℕ → ℕ → List (List A) → List (List A)
  answered_up m i M = answered m M (m - 1 - i) (m - 1 - i) i

  -- the last n rows answered
  unfoldable pub backed : ℕ → ℕ → List (List A) → List (List A)
  unfolding turns answered
  backed m n M = turns 0 n (answered_up m) M

  -- the whole solve of m rows of m matrix numbers and two right sides, which are the answers afterwards
  unfoldable pub solved : ℕ → List (List A) → List (List A)
  unfolding eliminated backed
  solved m M = backed m m (eliminated o m m M)
