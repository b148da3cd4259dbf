-- Squares of whole numbers keep their order; and what it is for a whole number to stand for a root. Assumes nothing.
use Prim.Native.Nat.{ℕ, zero, suc, ◌+◌, ◌*◌, ◌≤◌, ◌<◌}
use native.Mathlib.Nat.{lt_of_not-le, not-le_of_lt, mul-le-mul}
use native.Mathlib.Omega.{arith}

-- s is the whole part of the root of n
abbrev pub WholePart : ℕ → ℕ → Type 0
WholePart n s = (s * s ≤ n) × (n < (s + 1) * (s + 1))

-- q is the whole number nearest to the root of n: the root lies between q - 1/2 and q + 1/2. The squares of these have a quarter over,
-- which no n meets. So the quarter is left out, and there is no tie.
abbrev pub NearestWhole : ℕ → ℕ → Type 0
NearestWhole n q = (n ≤ q * q + q) × (q * q < n + q)

pub le_sq : (s : ℕ) → s ≤ s * s
le_sq zero = omega arith
le_sq (suc s) = omega arith

pub sq_mono : (s t : ℕ) → s ≤ t → s * s ≤ t * t
sq_mono s t h = mul-le-mul h h

pub root_lt : (s t : ℕ) → s * s < t * t → s < t
root_lt s t h = lt_of_not-le (λ (k : t ≤ s). not-le_of_lt h (sq_mono t s k))

pub root_le : (s t : ℕ) → s * s < (t + 1) * (t + 1) → s ≤ t
root_le s t h = omega (arith, root_lt s (t + 1) h)

pub sq_lt : (s t : ℕ) → s < t → s * s < t * t
sq_lt s t h = lt_of_not-le (λ (k : t * t ≤ s * s). not-le_of_lt h (root_le t s (omega arith)))

pub sq_pos : (n s : ℕ) → n < s * s → 1 ≤ s
sq_pos n zero h = omega arith
sq_pos n (suc s) h = omega arith
