-- A search along indices, a test of every index, and a list by its indices.
use Rattle.std.specs.Prelude.{Bool, true, ◌&&◌, cond, List, [], ◌∷◌, ℕ, zero, suc, ◌-◌, ltb}

-- the first of the d indices from i on at which the test holds, and i + d where it holds at none
unfoldable pub seek_from : ℕ → ℕ → (ℕ → Bool) → ℕ
seek_from i zero p = i
seek_from i (suc d) p = cond (p i) i (seek_from (suc i) d p)

-- the first index from lo on, below hi, at which the test holds, and hi where it holds at none
abbrev pub seek : ℕ → ℕ → (ℕ → Bool) → ℕ
seek lo hi p = seek_from lo (hi - lo) p

-- the test holds at some index from lo on, below hi
abbrev pub some : ℕ → ℕ → (ℕ → Bool) → Bool
some lo hi p = ltb (seek lo hi p) hi

-- the test holds at each of the first n indices
unfoldable pub every : ℕ → (ℕ → Bool) → Bool
every zero p = true
every (suc n) p = every n p && p n

-- f i, f (i + 1) and so on, d of them
unfoldable pub listed : {A : Type 0} → ℕ → ℕ → (ℕ → A) → List A
listed i zero f = []
listed i (suc d) f = f i ∷ listed (suc i) d f
