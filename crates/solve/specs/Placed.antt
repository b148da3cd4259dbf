-- Inner: rows that lie in a buffer each at its place, by an order.
use Rattle.std.specs.Prelude.{◌≡◌, List, [], ℕ, ◌+◌, ◌*◌, drop, get_or}
use Rattle.meaning.specs.Search.{listed}
use Rattle.row_order.specs.Order.{place_of, row_at}
use Rattle.solve.specs.Rows.{rows_of}

-- m rows as they lie, row r at its place
unfoldable pub laid : {A : Type 0} → ℕ → List ℕ → List (List A) → List (List A)
unfolding listed row_at
laid m order M = listed 0 m (λ k. get_or M (row_at m order k) [])

-- the m rows of m matrix numbers and two right sides that lie by an order at the front of the list w
unfoldable pub rows_by : {A : Type 0} → ℕ → List ℕ → List A → List (List A)
unfolding listed rows_of
rows_by m order w = listed 0 m (λ r. get_or (rows_of m (m + 2) w) (place_of order r) [])

-- such rows alone differ: there are as many, and what stands after them is the same
abbrev pub RowsAlone : {A : Type 0} → ℕ → List A → ℕ → List A → Type 0
RowsAlone m w m' w' = (m' ≡ m) × (drop (m' * (m' + 2)) w' ≡ drop (m * (m + 2)) w)
