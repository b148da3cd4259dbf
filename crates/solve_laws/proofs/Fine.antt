-- The answers of an accepted solve are finite: they are in the list of what it stores. Assumes nothing.
use mathlib.Core.Path.{◌≡◌, sym, ◌∙◌}
use mathlib.Core.Bool.{true}
use mathlib.Core.List.{List, ◌++◌, flatten}
use Prim.Native.Nat.{ℕ, ◌+◌, ◌<◌}
use Rattle.meaning.specs.Scalar.{Ops}
use Rattle.meaning.specs.Table.{at2}
use Rattle.meaning.specs.Search.{listed}
use Rattle.meaning.proofs.Tests.{and_left, and_right}
use Rattle.meaning.proofs.Every.{each}
use Rattle.solve.specs.Elimination.{eliminated}
use Rattle.solve.specs.Substitution.{solved}
use Rattle.solve.specs.Stored.{all_fine, stored_by_column, stored_by_solve, solved_ok}
use Rattle.solve.proofs.Stored.{fine_append, fine-listed}

module _ {A : Type 0} (o : Ops A) (m : ℕ) (M : List (List A)) (ok : solved_ok o m M ≡ true) where
  -- a column of numbers that are all finite
  listed-fine : (f : ℕ → A) → all_fine o (listed 0 m f) ≡ true → (r : ℕ) → r < m → o.fine (f r) ≡ true
  listed-fine f h = each m (λ r. o.fine (f r)) (sym (fine-listed o m f) ∙ h)

  -- both answers of row r
  pub solved-fine : (r : ℕ) → r < m → (o.fine (at2 o (solved o m M) r m) ≡ true) × (o.fine (at2 o (solved o m M) r (m + 1)) ≡ true)
  unfolding solved_ok stored_by_solve
  solved-fine r h =
      let steps = flatten (listed 0 m (λ col. stored_by_column o m col (eliminated o m col M))) in
      let xs = listed 0 m (λ k. at2 o (solved o m M) k m) in
      let ys = listed 0 m (λ k. at2 o (solved o m M) k (m + 1)) in
      let both = sym (fine_append o (steps ++ xs) ys) ∙ ok in
      let first = sym (fine_append o steps xs) ∙ and_left (all_fine o (steps ++ xs)) (all_fine o ys) both in (
        listed-fine (λ k. at2 o (solved o m M) k m) (and_right (all_fine o steps) (all_fine o xs) first) r h,
        listed-fine (λ k. at2 o (solved o m M) k (m + 1)) (and_right (all_fine o (steps ++ xs)) (all_fine o ys) both) r h,
      )
