-- Inner: rows of numbers, a list of lists, and the same laid one after the other in a buffer.
use Rattle.std.specs.Prelude.{◌≡◌, List, [], ◌∷◌, ◌++◌, ℕ, zero, suc, ◌<◌, length, take, drop, get_or}

-- rows laid one after the other, and what stands after them
unfoldable pub flat : {A : Type 0} → List (List A) → List A → List A
flat [] rest = rest
flat (r ∷ rs) rest = r ++ flat rs rest

-- the first m rows of s numbers that a list holds
unfoldable pub rows_of : {A : Type 0} → ℕ → ℕ → List A → List (List A)
rows_of zero s l = []
rows_of (suc m) s l = take s l ∷ rows_of m s (drop s l)

-- m rows of s numbers
pub record Shaped {A : Type 0} (m s : ℕ) (M : List (List A)) : Type 0 where
  pub count : length M ≡ m
  pub each : (r : ℕ) → r < m → length (get_or M r []) ≡ s

-- P holds of any m rows of s numbers that lie at the front of the list w, and of what stands after them
abbrev pub OfRows : {A : Type 0} → ℕ → ℕ → List A → (List (List A) → List A → Type 0) → Type 0
OfRows {A} m s w P = (M : List (List A)) (rest : List A) → w ≡ flat M rest → Shaped m s M → P M rest
