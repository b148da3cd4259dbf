-- What a solve answers and what it leaves in the buffer that it was lent. docs/RULES.md, "Work", decides: m rows of m + 2 numbers lie at the
-- front, m² + 2m doubles, and hold +0.0 afterwards; the rest is unchanged. It is the whole promise: it says nothing of where a row lies in between.
use Rattle.std.specs.Prelude.{Bool, false, ◌&&◌, List, ◌++◌, ℕ, ◌+◌, ◌*◌, length, replicate, leb, Float}
use Rattle.std.proofs.Math.Bool.{true, cond}
use Rattle.std.proofs.Math.ListN.{drop}
use Rattle.meaning.specs.Scalar.{Ops, zero64}
use Rattle.meaning.specs.Table.{at2}
use Rattle.meaning.specs.Search.{listed}
use Rattle.solve.specs.Substitution.{solved}
use Rattle.solve.specs.Stored.{solved_ok}

-- the two coordinates of the control points, 66 of each, and whether every number stored on the way was finite
pub record Solution (A : Type 0) : Type 0 where
  pub xs : List A
  pub ys : List A
  pub fine : Bool

module _ {A : Type 0} (o : Ops A) where
  -- 66 times +0.0
  abbrev pub zeros : List A
  zeros = replicate 66 (o.cst zero64)

  -- column c of m rows, over the front of a list
  unfoldable pub column : ℕ → List (List A) → ℕ → List A → List A
  unfolding listed
  column m M c l = listed 0 m (λ r. at2 o M r c) ++ drop m l

  abbrev pub no_solution : Solution A
  no_solution = record { xs = zeros; ys = zeros; fine = false }

  -- the answers of m rows: their right sides once they are solved, +0.0 past those, and nothing but +0.0 where the verdict is no
  unfoldable pub solution_of : ℕ → List (List A) → Solution A
  unfolding column solved solved_ok
  solution_of m M =
      let N = solved o m M in
      cond (solved_ok o m M) (record { xs = column m N m zeros; ys = column m N (m + 1) zeros; fine = true }) no_solution

-- there are 1 to 66 rows, and the buffer has room for them
abbrev pub fits : {A : Type 0} → ℕ → List A → Bool
fits m w = leb 1 m && (leb m 66 && leb (m * (m + 2)) (length w))

-- the buffer afterwards
unfoldable pub work_of : ℕ → List Float → List Float
work_of m w = cond (fits m w) (replicate (m * (m + 2)) zero64 ++ drop (m * (m + 2)) w) w
