-- Facts on numbers up to 3, by a test that antt computes at each of them. Assumes nothing.
use mathlib.Core.Bool.{Bool, true, false, ◌&&◌}
use Prim.Native.Nat.{ℕ, zero, suc, ◌≤◌}
use native.Mathlib.Omega.{arith}
use lib.Dec.{T}
use lib.Ieee.Fits.{and_l, and_r}

abbrev pub all4 : (ℕ → Bool) → Bool
all4 p = p 0 && (p 1 && (p 2 && p 3))

-- a test that passes at 0, 1, 2 and 3 passes at each n up to 3
pub at4 : (p : ℕ → Bool) → T (all4 p) → (n : ℕ) → n ≤ 3 → T (p n)
at4 p t zero h = and_l (p 0) (p 1 && (p 2 && p 3)) t
at4 p t (suc zero) h = and_l (p 1) (p 2 && p 3) (and_r (p 0) (p 1 && (p 2 && p 3)) t)
at4 p t (suc (suc zero)) h = and_l (p 2) (p 3) (and_r (p 1) (p 2 && p 3) (and_r (p 0) (p 1 && (p 2 && p 3)) t))
at4 p t (suc (suc (suc zero))) h = and_r (p 2) (p 3) (and_r (p 1) (p 2 && p 3) (and_r (p 0) (p 1 && (p 2 && p 3)) t))
at4 p t (suc (suc (suc (suc n)))) h = absurd (omega arith)

-- the same for two and for three numbers
pub at44 : (p : ℕ → ℕ → Bool) → T (all4 (λ m. all4 (p m))) → (m n : ℕ) → m ≤ 3 → n ≤ 3 → T (p m n)
at44 p t m n h k = at4 (p m) (at4 (λ i. all4 (p i)) t m h) n k

pub at444 : (p : ℕ → ℕ → ℕ → Bool) → T (all4 (λ l. all4 (λ m. all4 (p l m)))) → (l m n : ℕ) → l ≤ 3 → m ≤ 3 → n ≤ 3 → T (p l m n)
at444 p t l m n g h k = at44 (p l) (at4 (λ i. all4 (λ m. all4 (p i m))) t l g) m n h k

-- a test under a condition
abbrev pub imp : Bool → Bool → Bool
imp true b = b
imp false b = true

pub imp_out : (a b : Bool) → T (imp a b) → T a → T b
imp_out true b h t = h
imp_out false b h t = absurd t
