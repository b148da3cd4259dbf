-- Every number that a solve stores, over any scalar, in one list. docs/RULES.md, "When 15 is given", decides: each of them is to be finite. In the
-- elimination a row stores its multiplier and its numbers from the pivot's column on; then come the answers.
use Rattle.std.specs.Prelude.{Bool, true, ◌&&◌, ℕ, ◌+◌, ◌-◌, get_or}
use Rattle.std.proofs.Math.Bool.{cond}
use mathlib.Core.List.{List, [], ◌∷◌, ◌++◌, flatten}
use Rattle.std.proofs.Math.ListN.{drop}
use Rattle.std.specs.Float.Ieee.{eq}
use Rattle.meaning.specs.Scalar.{Ops, zero64}
use Rattle.meaning.specs.Table.{at1, at2}
use Rattle.meaning.specs.Search.{listed}
use Rattle.solve.specs.Elimination.{reduced, pivoted, eliminated}
use Rattle.solve.specs.Substitution.{solved}

module _ {A : Type 0} (o : Ops A) where
  -- every number of a list is finite
  unfoldable pub all_fine : List A → Bool
  all_fine [] = true
  all_fine (x ∷ l) = o.fine x && all_fine l

  -- what the row t of n matrix numbers stores, reduced by the pivot row p: nothing where it is skipped
  unfoldable pub stored_by_row : ℕ → ℕ → List A → List A → List A
  unfolding reduced
  stored_by_row n col p t =
      cond (eq (o.val (at1 o t col)) zero64) [] (o.over (at1 o t col) (at1 o p col) ∷ drop col (reduced o n col p t))

  -- what column col's step stores, on m rows of m matrix numbers: by each row below row col
  unfoldable pub stored_by_column : ℕ → ℕ → List (List A) → List A
  unfolding flatten listed stored_by_row pivoted
  stored_by_column m col M =
      let N = pivoted o m col M in flatten (listed (col + 1) (m - 1 - col) (λ r. stored_by_row m col (get_or N col []) (get_or N r [])))

  -- what the whole solve stores: by each column's step, and the answers
  unfoldable pub stored_by_solve : ℕ → List (List A) → List A
  unfolding flatten listed stored_by_column eliminated solved
  stored_by_solve m M =
      let N = solved o m M in
      flatten (listed 0 m (λ col. stored_by_column m col (eliminated o m col M))) ++ listed 0 m (λ r. at2 o N r m) ++ listed 0 m (λ r. at2 o N r (m + 1))

  -- each of these numbers is finite
  unfoldable pub solved_ok : ℕ → List (List A) → Bool
  unfolding all_fine stored_by_solve
  solved_ok m M = all_fine (stored_by_solve m M)
