-- Whole numbers: one that a double holds without a gap, which is what `n as f64` asks, and powers of two. Assumes nothing.
use Prim.Native.Nat.{ℕ, suc, ◌^◌, ◌≤◌}
use native.Mathlib.Nat.{le_of_suc-le-suc, lt_of_not-le, not-le_of_lt}
use lib.Dec.{T, le→leb}
use lib.Pow.{pow-lt}
use lib.IntN.{pos}
use lib.Ieee.{binary64, in_float}

pub held : (n : ℕ) → n ≤ 2 ^ 53 → T (in_float binary64 (pos n))
unfolding in_float
held n h = le→leb n (2 ^ 53) h

-- the lesser power has the lesser exponent
pub exponent : (k l : ℕ) → 2 ^ k ≤ 2 ^ l → k ≤ l
exponent k l h = le_of_suc-le-suc (lt_of_not-le (λ (g : suc l ≤ k). not-le_of_lt (pow-lt {i = l} {j = k} g) h))
