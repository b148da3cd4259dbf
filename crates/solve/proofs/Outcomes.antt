-- What a caller knows of the outcome: of rows that it laid out in the buffer, and of the answers. Assumes nothing.
use mathlib.Core.Path.{◌≡◌, refl}
use mathlib.Core.Bool.{Bool, true, false, cond}
use mathlib.Core.List.{List, ◌++◌}
use Prim.Native.Nat.{ℕ, ◌+◌, ◌*◌, ◌≤◌, ◌<◌}
use lib.ListN.{length, replicate}
use lib.Ieee.{Float}
use borrow.Author.Tests.{le-leb}
use Rattle.meaning.specs.Scalar.{Ops, plain, zero64}
use Rattle.meaning.specs.Table.{at1, at2}
use Rattle.solve.specs.Rows.{flat, Shaped}
use Rattle.solve.specs.Substitution.{solved}
use Rattle.solve.specs.Stored.{solved_ok}
use Rattle.solve.specs.Outcome.{zeros, column, no_solution, solution_of, fits, work_of}
use Rattle.solve.specs.Buffer.{solve_of}
use Rattle.solve.proofs.Flat.{rows_of-flat, rest_of}
use Rattle.solve.proofs.Answers.{column-at}

pub fits_true : {A : Type 0} (m : ℕ) (w : List A) → 1 ≤ m → m ≤ 66 → m * (m + 2) ≤ length w → fits m w ≡ true
fits_true m w a b h = rw (le-leb 1 m a, le-leb m 66 b, le-leb (m * (m + 2)) (length w) h)

-- ---- a buffer w that holds the rows M, 1 to 66 of them, and rest after them
module _ (m : ℕ) (M : List (List Float)) (rest w : List Float) (e : w ≡ flat M rest) (sh : Shaped m (m + 2) M) (h : fits m w ≡ true) where
  pub solve_of-rows : solve_of m w ≡ solution_of plain m M
  unfolding solve_of
  solve_of-rows = rw (h, e, rows_of-flat rest sh)

  pub work-of_rows : work_of m w ≡ replicate (m * (m + 2)) zero64 ++ rest
  unfolding work_of
  work-of_rows = rw (h, e, rest_of M rest m (m + 2) sh)

-- ---- the answers of m rows
module _ {A : Type 0} (o : Ops A) where
  picked : (b : Bool) (x y : List A) → (cond b (record { xs = x; ys = y; fine = true }) (no_solution o)).fine ≡ b
  picked true x y = refl
  picked false x y = refl

  module _ (m : ℕ) (M : List (List A)) where
    pub solution_fine : (solution_of o m M).fine ≡ solved_ok o m M
    unfolding solution_of
    solution_fine = picked (solved_ok o m M) (column o m (solved o m M) m (zeros o)) (column o m (solved o m M) (m + 1) (zeros o))

    -- where the verdict is yes: answer r of each coordinate
    module _ (fine : solved_ok o m M ≡ true) (few : m ≤ 66) (r : ℕ) (h : r < m) where
      pub x-at : at1 o (solution_of o m M).xs r ≡ at2 o (solved o m M) r m
      unfolding solution_of
      x-at = rw fine (column-at o m (solved o m M) m (zeros o) few r h)

      pub y-at : at1 o (solution_of o m M).ys r ≡ at2 o (solved o m M) r (m + 1)
      unfolding solution_of
      y-at = rw fine (column-at o m (solved o m M) (m + 1) (zeros o) few r h)
