-- Values with partials in two lent slices. docs/RULES.md, "Partials", decides what is counted and what a missing partial reads as. Cell k is c + 1
-- doubles, a value and room for c partials, and a byte that says how many of the partials there are: above c it is read as c.
use Rattle.std.specs.Prelude.{Bool, ◌&&◌, cond, List, ℕ, zero, suc, ◌+◌, ◌*◌, min, length, get_or, set, leb, ltb, Float}
use Rattle.std.proofs.Math.Seq.{paste}
use Rattle.std.specs.Float.{nan}
use Rattle.meaning.specs.Scalar.{zero64}
use Rattle.meaning.specs.Search.{listed}
use Rattle.partials.specs.declared.Dv.{Dv}
use Rattle.partials.specs.Dual.{part_of, partials, cst_dv}

-- ---- reading

-- the value d 0 with the n partials d 1, d 2 and so on
unfoldable pub value_of : (ℕ → Float) → ℕ → Dv
unfolding partials
value_of d n = record { v = d 0; g = partials n (λ j. d (suc j)); n = n }

-- what lies in cell k, in rooms for c partials
unfoldable pub cell_at : ℕ → List Float → List ℕ → ℕ → Dv
unfolding value_of
cell_at c w ns k = value_of (λ j. get_or w (k * (c + 1) + j) nan) (min (get_or ns k 0) c)

-- ---- writing

-- v, then f 0, f 1 and so on
abbrev pub headed : Float → (ℕ → Float) → ℕ → Float
headed v f zero = v
headed v f (suc j) = f j

-- the value and c partials one after the other, +0.0 in place of a missing one
unfoldable pub doubles_of : ℕ → Dv → List Float
unfolding listed
doubles_of c d = listed 0 (c + 1) (headed d.v (part_of d))

-- ---- any slices: at most 27 partials, and the 224 cells that fourteen rows of sixteen have

abbrev pub has_cell : ℕ → ℕ → ℕ → ℕ → Bool
has_cell doubles bytes c k = leb c 27 && (leb k 223 && (ltb k bytes && leb (k * (c + 1) + (c + 1)) doubles))

-- what is read of cell k: +0.0 where there is no such cell
unfoldable pub read_at : ℕ → List Float → List ℕ → ℕ → Dv
unfolding cell_at cst_dv
read_at c w ns k = cond (has_cell (length w) (length ns) c k) (cell_at c w ns k) (cst_dv zero64)

-- both slices once d stands in cell k, with as many of its partials as there is room for; as they were where there is no such cell
unfoldable pub doubles_with : ℕ → List Float → List ℕ → ℕ → Dv → List Float
unfolding doubles_of
doubles_with c w ns k d = cond (has_cell (length w) (length ns) c k) (paste w (k * (c + 1)) (doubles_of c d) (c + 1)) w

unfoldable pub counts_with : ℕ → List Float → List ℕ → ℕ → Dv → List ℕ
counts_with c w ns k d = cond (has_cell (length w) (length ns) c k) (set ns k (min d.n c)) ns
