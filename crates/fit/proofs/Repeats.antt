-- A parameter that is the next one makes two rows with the same matrix numbers, which the solve refuses. Assumes nothing.
use mathlib.Core.Path.{◌≡◌, sym, ap, ◌∙◌}
use mathlib.Core.Bool.{false}
use mathlib.Core.List.{List}
use Prim.Native.Nat.{ℕ, suc, ◌+◌, ◌-◌, ◌<◌}
use native.Mathlib.Nat.{suc-ne-zero}
use native.Mathlib.Omega.{arith}
use borrow.Author.Tests.{lt-ltb, le-leb, ne_eqb}
use lib.Ieee.{Float}
use Rattle.meaning.specs.Scalar.{Ops, plain}
use Rattle.meaning.specs.Table.{at1, at2}
use Rattle.plane.specs.Vector.{Vector}
use Rattle.solve.specs.Stored.{solved_ok}
use Rattle.solve_laws.proofs.Twins.{twins_refused}
use Rattle.fit.specs.Parameters.{point_at}
use Rattle.fit.specs.System.{with_sides, row_at, row_of, fit_row, fit_rows}
use Rattle.meaning.proofs.Filling.{nth_listed}
use Rattle.fit.proofs.Rows.{fit_row-at, fit_rows_shaped}
use Rattle.fit.proofs.Doubles.{row-double}
use Rattle.fit.proofs.Rising.{Repeat}

module _ {A : Type 0} (o : Ops A) (sp : Float → ℕ) (us : List A) where
  -- a matrix number of a row
  row-at : (m : ℕ) (t : A) (d : ℕ) (b : Vector A) (j : ℕ) → j < m → at1 o (row_of o sp us m t d b) j ≡ row_at o sp us t d j
  unfolding row_of with_sides
  row-at m t d b j h = nth_listed (m + 2) j (with_sides o m (row_at o sp us t d) b) o.off (omega arith) ∙ rw (lt-ltb j m h)

  module _ (p : ℕ → A) (q : List A) (n k : ℕ) (h : k < n) where
    -- the row that reads parameter k
    point_row : fit_row o sp us p q n (suc k) ≡ row_of o sp us (n + 2) (p k) 0 (point_at o q k)
    unfolding fit_row
    point_row = let e : suc k - 1 ≡ k = omega arith in rw (ne_eqb (suc k) 0 (suc-ne-zero k), le-leb (suc k) n h, e)

    pub point_row_at : (j : ℕ) → j < n + 2 → at2 o (fit_rows o sp us p q n) (suc k) j ≡ row_at o sp us (p k) 0 j
    point_row_at j l =
        ap (λ (t : List A). at1 o t j) (fit_row-at o sp us p q n (suc k) (omega arith) ∙ point_row) ∙ row-at (n + 2) (p k) 0 (point_at o q k) j l

pub repeat_refused : (sp : Float → ℕ) (us : List Float) (p : ℕ → Float) (q : List Float) (n : ℕ) → Repeat p n
    → solved_ok plain (n + 2) (fit_rows plain sp us p q n) ≡ false
repeat_refused sp us p q n e =
    let k = e.k in
    let first = point_row_at plain sp us p q n k (omega (arith, e.low)) in
    twins_refused (n + 2) (fit_rows plain sp us p q n) (fit_rows_shaped plain sp us p q n) (suc k) (suc (suc k))
    (omega (arith, e.low)) (omega (arith, e.low)) (λ z. omega arith)
    (λ j l. first j l ∙ ap (λ (t : Float). row_at plain sp us t 0 j) e.same ∙ sym (point_row_at plain sp us p q n (suc k) e.low j l))
    (λ j l. rw (first j l) (row-double sp us (p k) 0 j))
