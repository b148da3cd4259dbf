-- How values cross between C and the library: as slices and counts. include/threshdune_parts.h says the same in words.
use Rattle.std.specs.Prelude.{◌≡◌, ℕ, ◌+◌, ◌*◌, ◌/◌, ◌%◌, Bool, ◌||◌, cond, List, [], ◌∷◌, ◌++◌, map, length, get_or, ltb, Float}
use Rattle.std.proofs.Math.Seq.{paste}
use Rattle.meaning.specs.Scalar.{zero64}
use Rattle.meaning.specs.Table.{at2}
use Rattle.meaning.specs.Search.{listed}
use Rattle.partials.specs.declared.Dv.{Dv}
use Rattle.partials.specs.Dual.{partials, dual}
use Rattle.plane.specs.Vector.{Vector}

-- ---- in: what lies past a slice's end reads as +0.0, a missing count as 0

abbrev pub entry_of : List Float → ℕ → Float
entry_of s i = get_or s i zero64

-- the value with n partials that stands in s from index at on
unfoldable pub read_dv : List Float → ℕ → ℕ → Dv
read_dv s at n = record { v = entry_of s at; g = partials 27 (λ k. entry_of s (at + 1 + k)); n = n }

-- the vector with partials: x, and 28 numbers further y
unfoldable pub read_v : List Float → List ℕ → Vector Dv
unfolding read_dv
read_v s ns = record { x = read_dv s 0 (get_or ns 0 0); y = read_dv s 28 (get_or ns 1 0) }

-- the six knots of a span, one behind the other
unfoldable pub read_six : List Float → List ℕ → List Dv
unfolding read_dv
read_six s ns = listed 0 6 (λ i. read_dv s (28 * i) (get_or ns i 0))

-- ---- out: the refusal, and the lent slices before and after. Where there is no room it is 14 and they are as they were.

-- a value with partials: its 28 numbers, and its count
pub record AnsweredD (d : Dv) (out : List Float) (n : ℕ) (refusal : ℕ) (out' : List Float) (n' : ℕ) : Type 0 where
  pub number : refusal ≡ cond (ltb (length out) 28) 14 0
  pub written : out' ≡ cond (ltb (length out) 28) out (paste out 0 (d.v ∷ d.g) 28)
  pub counted : n' ≡ cond (ltb (length out) 28) n d.n

-- values with partials one behind the other in two slices: 28 numbers of each in the first, its count in the second
unfoldable pub all_numbers : List Dv → List Float
all_numbers [] = []
all_numbers (d ∷ ds) = (d.v ∷ d.g) ++ all_numbers ds

abbrev pub no_room : List Dv → List Float → List ℕ → Bool
no_room values out ns = ltb (length out) (28 * length values) || ltb (length ns) (length values)

pub record AnsweredAll (values : List Dv) (out : List Float) (ns : List ℕ) (refusal : ℕ) (out' : List Float) (ns' : List ℕ) : Type 0 where
  pub number : refusal ≡ cond (no_room values out ns) 14 0
  pub written : out' ≡ cond (no_room values out ns) out (paste out 0 (all_numbers values) (28 * length values))
  pub counted : ns' ≡ cond (no_room values out ns) ns (paste ns 0 (map (λ d. d.n) values) (length values))

-- a vector with partials
unfoldable pub AnsweredV : Vector Dv → List Float → List ℕ → ℕ → List Float → List ℕ → Type 0
AnsweredV a = AnsweredAll (a.x ∷ a.y ∷ [])

-- the orders of a span's basis, five rows of four values with partials: value i is in row i / 4 at column i % 4
abbrev pub value_of : List (List Dv) → ℕ → Dv
value_of rows i = at2 dual rows (i / 4) (i % 4)

unfoldable pub AnsweredB : List (List Dv) → List Float → List ℕ → ℕ → List Float → List ℕ → Type 0
AnsweredB rows = AnsweredAll (listed 0 20 (value_of rows))

-- a vector of doubles
pub record AnsweredP (a : Vector Float) (out : List Float) (refusal : ℕ) (out' : List Float) : Type 0 where
  pub number : refusal ≡ cond (ltb (length out) 2) 14 0
  pub written : out' ≡ cond (ltb (length out) 2) out (paste out 0 (a.x ∷ a.y ∷ []) 2)
