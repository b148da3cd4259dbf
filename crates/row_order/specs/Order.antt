-- Inner: the order of rows that stay where they lie. Number r of the list is the place of row r.
use Rattle.std.specs.Prelude.{◌≡◌, ◌&&◌, cond, List, ℕ, ◌≤◌, ◌<◌, length, get_or, set, eqb, ltb}
use Rattle.meaning.specs.Search.{seek_from, seek}

-- where row r lies
abbrev pub place_of : List ℕ → ℕ → ℕ
place_of order r = get_or order r 0

-- of m rows the one that lies at place k
unfoldable pub row_at : ℕ → List ℕ → ℕ → ℕ
unfolding seek_from
row_at m order k = seek 0 m (λ r. eqb (place_of order r) k)

-- rows i and j exchanged; nothing where one of them is not below 66
unfoldable pub exchanged_in : List ℕ → ℕ → ℕ → List ℕ
exchanged_in order i j =
    cond (ltb i 66 && ltb j 66) (set (set order i (place_of order j)) j (place_of order i)) order

-- the same in an order of m rows: nothing where one of them is none of the rows
abbrev pub exchanged_below : ℕ → List ℕ → ℕ → ℕ → List ℕ
exchanged_below m order i j = cond (ltb i m && ltb j m) (exchanged_in order i j) order

-- the order is a permutation of m places: each of m rows lies at one of them, no two at the same, and at each place one
pub record Order (m : ℕ) (order : List ℕ) : Type 0 where
  pub few : m ≤ 66
  pub long : length order ≡ 66
  pub within : (r : ℕ) → r < m → place_of order r < m
  pub apart : (i j : ℕ) → i < m → j < m → place_of order i ≡ place_of order j → i ≡ j
  pub taken : (k : ℕ) → k < m → row_at m order k < m
