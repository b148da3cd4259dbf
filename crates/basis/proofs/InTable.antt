-- The columns that A2.3's derivative loop reads lie in the table of four. Assumes nothing.
use Prim.Native.Nat.{ℕ, ◌≤◌, ◌<◌}
use native.Mathlib.Omega.{arith}
use lib.Dec.{leb, ltb, leb→le, le→leb, lt→ltb}
use Rattle.basis_columns.specs.Columns.{below, column_at, first_j, end_j}
use Rattle.basis.proofs.Small.{at44, at444, imp, imp_out}

-- the column r - k, where r is k or more
pub first_in : (r k : ℕ) → r ≤ 3 → k ≤ r → column_at (below r k) 0 ≤ 3
first_in r k h g = leb→le _ _ (imp_out (leb k r) _ (at44 (λ r k. imp (leb k r) (leb (column_at (below r k) 0) 3)) tt r k h (omega arith)) (le→leb k r g))

-- the loop over j begins at 1 or later, is in order, and ends at 4 or before
pub first_le : (r k : ℕ) → r ≤ 3 → k ≤ 3 → 1 ≤ first_j (below r k)
first_le r k h g = leb→le _ _ (at44 (λ r k. leb 1 (first_j (below r k))) tt r k h g)

pub range_in : (r k : ℕ) → r ≤ 3 → 1 ≤ k → k ≤ 3 → first_j (below r k) ≤ end_j r k
range_in r k h l g =
    leb→le _ _ (imp_out (leb 1 k) _ (at44 (λ r k. imp (leb 1 k) (leb (first_j (below r k)) (end_j r k))) tt r k h g) (le→leb 1 k l))

pub end_le : (r k : ℕ) → r ≤ 3 → k ≤ 3 → end_j r k ≤ 4
end_le r k h g = leb→le _ _ (at44 (λ r k. leb (end_j r k) 4) tt r k h g)

-- each of its columns is in the table
pub mid_in : (r k j : ℕ) → r ≤ 3 → 1 ≤ k → k ≤ 3 → first_j (below r k) ≤ j → j < end_j r k → column_at (below r k) j ≤ 3
mid_in r k j h l g p q =
    let n : j ≤ 3 = omega (arith, end_le r k h g) in
    leb→le _ _
    (imp_out (ltb j (end_j r k)) _
    (imp_out (leb (first_j (below r k)) j) _
    (imp_out (leb 1 k) _
    (at444 (λ r k j. imp (leb 1 k) (imp (leb (first_j (below r k)) j) (imp (ltb j (end_j r k)) (leb (column_at (below r k) j) 3)))) tt r k j h g n) (le→leb 1 k l))
    (le→leb _ j p))
    (lt→ltb j _ q))
