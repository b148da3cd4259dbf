-- The columns of the table that A2.3's derivative loop reads. The NURBS Book, A2.3, decides, with its names r, k, rk, j1 and j2; docs/RULES.md
-- asks that r - k, which runs below zero, is a signed number.
use Rattle.std.specs.Prelude.{ℕ, ◌-◌, cond, ℤ, pos, negsuc, neg_ℤ, ◌+ℤ◌, ◌-ℤ◌}
use Rattle.std.specs.Int.Signed.{le_z}

-- rk: r - k
abbrev pub below : ℕ → ℕ → ℤ
below r k = pos r -ℤ pos k

-- a signed number that is not negative, as an index; below zero, where A2.3 reads nothing, 0
abbrev pub index : ℤ → ℕ
index (pos n) = n
index (negsuc n) = 0

-- the column rk + j
abbrev pub column_at : ℤ → ℕ → ℕ
column_at rk j = index (rk +ℤ pos j)

-- j1: 1 where rk ≥ -1, else -rk
abbrev pub first_j : ℤ → ℕ
first_j rk = cond (le_z (negsuc 0) rk) 1 (index (neg_ℤ rk))

-- one past j2: k where r - 1 ≤ 3 - k, else 4 - r
abbrev pub end_j : ℕ → ℕ → ℕ
end_j r k = cond (le_z (below r 1) (below 3 k)) k (4 - r)
