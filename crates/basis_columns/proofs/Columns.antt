-- Where A2.3 reads a column it is not negative: the index is the signed number itself. Assumes nothing.
use mathlib.Core.Path.{◌≡◌, refl}
use Prim.Native.Nat.{ℕ, zero, suc, ◌≤◌}
use native.Mathlib.Omega.{arith}
use borrow.Author.Tests.{le-ltb, lt-leb}
use lib.IntN.{ℤ, pos, negsuc, sub_ℕ, ◌+ℤ◌}
use Rattle.basis_columns.specs.Columns.{below, index, column_at, first_j}

-- a difference of natural numbers that does not go below zero
difference : (a b : ℕ) → b ≤ a → sub_ℕ a b ≡ pos (index (sub_ℕ a b))
difference a b h = rw (le-ltb a b h)

-- coefficient 0, which there is where k ≤ r: the column is r - k
pub first-column : (r k : ℕ) → k ≤ r → below r k +ℤ pos 0 ≡ pos (column_at (below r k) 0)
first-column r zero h = refl
first-column r (suc k) h = rw (le-ltb r (suc k) h)

-- coefficient j, from j1 on: the column is rk + j
pub mid_column : (rk : ℤ) (j : ℕ) → first_j rk ≤ j → rk +ℤ pos j ≡ pos (column_at rk j)
mid_column (pos n) j h = refl
mid_column (negsuc zero) j h = difference j 1 h
mid_column (negsuc (suc n)) j h = difference j (suc (suc n)) (rw (lt-leb (suc n) 0 (omega arith)) at h)
