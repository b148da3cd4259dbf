-- Inner: slices that hold cells seen as a list of values, and what a function makes of them.
use Rattle.std.specs.Prelude.{◌≡◌, Bool, List, ℕ, ◌+◌, ◌*◌, ◌≤◌, ◌<◌, min, length, get_or, set, Float}
use Rattle.std.specs.Float.{binary64, nan}
use Rattle.std.specs.Float.Ieee.{add, sub, mul}
use Rattle.meaning.specs.Scalar.{zero64}
use Rattle.meaning.specs.Search.{listed}
use Rattle.partials.specs.declared.Dv.{Dv}
use Rattle.partials.specs.Dual.{dual, fine_dv}
use Rattle.cells.specs.Cell.{value_of, cell_at}

-- the values in the cells of the slices
unfoldable pub held : ℕ → List Float → List ℕ → List Dv
unfolding listed cell_at
held c w ns = listed 0 (length ns) (cell_at c w ns)

-- there are doubles for each byte
pub record Room (c : ℕ) (w : List Float) (ns : List ℕ) : Type 0 where
  pub narrow : c ≤ 27
  pub few : length ns ≤ 224
  pub room : length ns * (c + 1) ≤ length w

-- number j of the doubles t, and the value with n partials that they are
abbrev pub numbered : List Float → ℕ → Float
numbered t j = get_or t j nan

abbrev pub valued : List Float → ℕ → Dv
valued t n = value_of (numbered t) n

-- +0.0 past n partials
abbrev pub Clean : List Float → ℕ → Type 0
Clean t n = (j : ℕ) → n < j → j < 28 → numbered t j ≡ zero64

-- partial j of the product of a and b, taken off
abbrev pub less_product : List Float → List Float → List Float → ℕ → Float
less_product t a b j =
    sub binary64 (numbered t j) (add binary64 (mul binary64 (numbered a j) (numbered b 0)) (mul binary64 (numbered a 0) (numbered b j)))

-- value k of the slices
abbrev pub at : ℕ → List Float → List ℕ → ℕ → Dv
at c w ns k = get_or (held c w ns) k dual.off

-- how many partials it has
abbrev pub count_at : ℕ → List ℕ → ℕ → ℕ
count_at c ns k = min (get_or ns k 0) c

-- the doubles q are the value v with n partials, copied out
abbrev pub Copied : List Float → ℕ → Dv → Type 0
Copied q n v = (length q ≡ 28) × Clean q n × (valued q n ≡ v)

-- the slices w' and ns' hold v in cell k, and else what w and ns do; q is the verdict on v
abbrev pub CellBecomes : ℕ → ℕ → Dv → List Float → List ℕ → List Float → List ℕ → Bool → Type 0
CellBecomes c k v w ns w' ns' q = (held c w' ns' ≡ set (held c w ns) k v) × (q ≡ fine_dv v)
