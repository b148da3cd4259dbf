-- Inner: the verdict on what a solve stores, as the code joins it step by step, over any scalar: a definition for each of those of specs/Elimination
-- and specs/Substitution. Together they are the verdict on the list of specs/Stored.
use Rattle.std.specs.Prelude.{Bool, ◌&&◌, List, [], ℕ, ◌+◌, ◌-◌, length, get_or, leb, ltb}
use Rattle.std.proofs.Math.Bool.{true, cond}
use Rattle.std.specs.Float.Ieee.{eq}
use Rattle.meaning.specs.Scalar.{Ops, zero64}
use Rattle.meaning.specs.Table.{at1}
use Rattle.meaning.specs.Search.{every}
use Rattle.solve.specs.Elimination.{less_at, pivoted, eliminated}
use Rattle.solve.specs.Substitution.{answer, backed}

module _ {A : Type 0} (o : Ops A) where
  -- ---- the elimination

  unfoldable pub fine_at : ℕ → ℕ → A → List A → List A → ℕ → Bool
  unfolding less_at
  fine_at n col f p t k = cond (ltb k col) true (o.fine (less_at o n col f p t k))

  unfoldable pub subtracted_ok : ℕ → ℕ → A → List A → List A → Bool
  unfolding every fine_at
  subtracted_ok n col f p t = every (length t) (fine_at n col f p t)

  unfoldable pub reduced_ok : ℕ → ℕ → List A → List A → Bool
  unfolding subtracted_ok
  reduced_ok n col p t =
      let f = o.over (at1 o t col) (at1 o p col) in
      cond (eq (o.val (at1 o t col)) zero64) true (o.fine f && subtracted_ok n col f p t)

  unfoldable pub row_fine : ℕ → ℕ → List A → List (List A) → ℕ → Bool
  unfolding reduced_ok
  row_fine n col p M r = cond (leb r col) true (reduced_ok n col p (get_or M r []))

  unfoldable pub reduced_rows_ok : ℕ → ℕ → ℕ → List A → List (List A) → Bool
  unfolding every row_fine
  reduced_rows_ok m n col p M = every m (row_fine n col p M)

  unfoldable pub column_ok : ℕ → ℕ → List (List A) → Bool
  unfolding pivoted reduced_rows_ok
  column_ok m col M = let N = pivoted o m col M in reduced_rows_ok m m col (get_or N col []) N

  unfoldable pub eliminated_ok : ℕ → ℕ → List (List A) → Bool
  unfolding every column_ok eliminated
  eliminated_ok m n M = every n (λ col. column_ok m col (eliminated o m col M))

  -- ---- back substitution

  unfoldable pub answered_ok : ℕ → List (List A) → ℕ → ℕ → ℕ → Bool
  unfolding answer
  answered_ok k M r d n = o.fine (answer o M r k d n) && o.fine (answer o M r (k + 1) d n)

  abbrev pub answered_up_ok : ℕ → ℕ → List (List A) → Bool
  answered_up_ok m i M = answered_ok m M (m - 1 - i) (m - 1 - i) i

  unfoldable pub backed_ok : ℕ → ℕ → List (List A) → Bool
  unfolding every answered_ok backed
  backed_ok m n M = every n (λ i. answered_up_ok m i (backed o m i M))
