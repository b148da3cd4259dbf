-- A lent slice after numbers were put into it: the kit's `paste`, where there is room.
use Rattle.std.specs.Prelude.{ℕ, ◌-◌, Bool, ◌&&◌, cond, List, length, leb}
use Rattle.std.proofs.Math.Seq.{paste}

-- n numbers stand in src, and out has room for them from index at on
abbrev pub room_for : {A : Type 0} → List A → ℕ → List A → ℕ → Bool
room_for src n out at = leb n (length src) && (leb at (length out) && leb n (length out - at))

-- out with the n numbers from index at on replaced by the first n of src; out itself where there is no room
unfoldable pub pasted : {A : Type 0} → List A → ℕ → List A → ℕ → List A
pasted src n out at = cond (room_for src n out at) (paste out at src n) out
