-- An array made from a function of the index, `array::from_fn`, is the list by its indices. Assumes nothing.
use mathlib.Core.Path.{◌≡◌, sym, ◌∙◌}
use mathlib.Core.List.{List}
use Prim.Native.Nat.{ℕ, zero, suc, ◌+◌, ◌<◌}
use native.Mathlib.Nat.{zero-add}
use native.Mathlib.Omega.{arith}
use lib.ListN.{get_or}
use lib.Seq.{ext_get_or}
use denote.Param.Members.{Mut, Called}
use Rattle.std.specs.Array.{IsFromFnResult, IsFromFnResultFrom}
use Rattle.meaning.specs.Search.{listed}
use Rattle.meaning.proofs.Filling.{length-listed, nth_listed}

-- f is the closure as it is at each call, and h what it computes
module _ {F B : Type 0} (g : Mut F (ℕ × Unit {0}) B) (h : ℕ → B) (z : B) {f : F}
    (acts : (i : ℕ) (y : B) (q : F) → Called g f (i, tt) y q → (q ≡ f) × (y ≡ h i)) where
  at_each : (ys : List B) (n i j : ℕ) → IsFromFnResultFrom g f ys i n → j < n → get_or ys (i + j) z ≡ h (i + j)
  at_each ys zero i j m l = absurd (omega arith)
  at_each ys (suc n) i zero (q, y, e, c, more) l = let k : i + zero ≡ i = omega arith in rw k (e.1 z ∙ (acts i y q c).1)
  at_each ys (suc n) i (suc j) (q, y, e, c, more) l =
      let k : i + suc j ≡ i + 1 + j = omega arith in
      rw k (at_each ys n (i + 1) j (rw (acts i y q c).0 at more) (omega arith))

  pub made : {ys : List B} {n : ℕ} → IsFromFnResult g f ys n → ys ≡ listed 0 n h
  made {ys} {n} m =
      ext_get_or z ys (listed 0 n h) (m.long ∙ sym (length-listed 0 n h))
      (λ i l.
      let low : i < n = omega (arith, m.long) in
      (rw (zero-add i) at (at_each ys n 0 i m.each low)) ∙ sym (nth_listed n i h z low))

-- the same, with the array first, so that a search for what a call computes knows the closure
pub made_of : {F B : Type 0} {g : Mut F (ℕ × Unit {0}) B} {f : F} (h : ℕ → B) (z : B) {ys : List B} {n : ℕ} → IsFromFnResult g f ys n
    → ((i : ℕ) (y : B) (q : F) → Called g f (i, tt) y q → (q ≡ f) × (y ≡ h i)) → ys ≡ listed 0 n h
made_of {g = g} h z m acts = made g h z acts m
