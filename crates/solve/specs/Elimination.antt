-- Elimination with partial pivoting on a list of rows, over any scalar. A row has n matrix numbers and its right sides after them.
-- docs/RULES.md, "Solve", decides, and the original's operation order: the multiplier stands first in the products of the matrix and second
-- in those of the right sides. What of it has to be finite, specs/Stored says.
use Rattle.std.specs.Prelude.{Bool, List, [], ℕ, length, get_or, set, leb, ltb}
use Rattle.std.proofs.Math.Bool.{cond}
use Rattle.std.specs.Float.Ieee.{eq}
use Rattle.meaning.specs.Scalar.{Ops, zero64}
use Rattle.meaning.specs.Loops.{turns}
use Rattle.meaning.specs.Table.{at1}
use Rattle.meaning.specs.Search.{listed}
use Rattle.solve.specs.Pivot.{pivot}

-- rows i and j exchanged
unfoldable pub exchanged : {A : Type 0} → List (List A) → ℕ → ℕ → List (List A)
exchanged M i j = set (set M i (get_or M j [])) j (get_or M i [])

module _ {A : Type 0} (o : Ops A) where
  -- x less f times y, in the matrix or in the right sides
  abbrev pub less_by : Bool → A → A → A → A
  less_by matrix f x y = cond matrix (o.minus x (o.times f y)) (o.minus x (o.times y f))

  -- number k of the row t less f times the row p, from column col on
  unfoldable pub less_at : ℕ → ℕ → A → List A → List A → ℕ → A
  less_at n col f p t k = cond (ltb k col) (at1 o t k) (less_by (ltb k n) f (at1 o t k) (at1 o p k))

  unfoldable pub subtracted : ℕ → ℕ → A → List A → List A → List A
  unfolding listed less_at
  subtracted n col f p t = listed 0 (length t) (less_at n col f p t)

  -- the row t once its number in column col is eliminated by the pivot row p; skipped where that number compares equal to 0
  unfoldable pub reduced : ℕ → ℕ → List A → List A → List A
  unfolding subtracted
  reduced n col p t = cond (eq (o.val (at1 o t col)) zero64) t (subtracted n col (o.over (at1 o t col) (at1 o p col)) p t)

  -- m rows, those below row col reduced by p
  unfoldable pub row_after : ℕ → ℕ → List A → List (List A) → ℕ → List A
  unfolding reduced
  row_after n col p M r = cond (leb r col) (get_or M r []) (reduced n col p (get_or M r []))

  unfoldable pub reduced_rows : ℕ → ℕ → ℕ → List A → List (List A) → List (List A)
  unfolding listed row_after
  reduced_rows m n col p M = listed 0 m (row_after n col p M)

  -- m rows of m matrix numbers once the row with column col's pivot stands in row col
  unfoldable pub pivoted : ℕ → ℕ → List (List A) → List (List A)
  unfolding pivot exchanged
  pivoted m col M = exchanged M col (pivot o m col M)

  -- column col's whole step
  unfoldable pub column_done : ℕ → ℕ → List (List A) → List (List A)
  unfolding pivoted reduced_rows
  column_done m col M = let N = pivoted m col M in reduced_rows m m col (get_or N col []) N

  -- the first n columns
  unfoldable pub eliminated : ℕ → ℕ → List (List A) → List (List A)
  unfolding turns column_done
  eliminated m n M = turns 0 n (column_done m) M
