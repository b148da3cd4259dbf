-- Partials that a loop has made one after the other, and what is left of the room for 27. Assumes nothing.
use mathlib.Core.Path.{◌≡◌, refl, sym, ap, ◌∙◌}
use mathlib.Core.Bool.{cond}
use mathlib.Core.List.{List, ◌++◌}
use Prim.Native.Nat.{ℕ, zero, suc, ◌+◌, ◌-◌, ◌≤◌, ◌<◌}
use native.Mathlib.Nat.{sub-zero}
use native.Mathlib.Omega.{arith}
use lib.ListN.{length, get_or, set, drop, replicate, length-append, length-drop, length-replicate, get_or-append, get_or-replicate}
use lib.Seq.{ext_get_or, get_or-append-add, get_or-drop}
use lib.Dec.{ltb}
use borrow.Author.Tests.{ltb-true, ltb-false}
use lib.Ieee.{Float, nan}
use Rattle.meaning.specs.Scalar.{zero64}
use Rattle.meaning.specs.Loops.{turns}
use Rattle.meaning.specs.Search.{listed}
use Rattle.meaning.proofs.Tests.{by_two}
use Rattle.meaning.proofs.Filling.{length-listed, nth_listed, set_front}
use Rattle.partials.specs.Dual.{partials}

-- ---- partials that agree below their number are the same

turns_same : (n : ℕ) (f g : ℕ → Float) (l : List Float) → ((j : ℕ) → j < n → f j ≡ g j) → turns 0 n (λ k l. set l k (f k)) l ≡ turns 0 n (λ k l. set l k (g k)) l
unfolding turns
turns_same zero f g l h = refl
turns_same (suc n) f g l h =
    let e = turns_same n f g l (λ j b. h j (omega arith)) in
    let q : f (0 + n) ≡ g (0 + n) = h (0 + n) (omega arith) in
    λ i. set (e i) (0 + n) (q i)

pub partials_same : (n : ℕ) (f g : ℕ → Float) → ((j : ℕ) → j < n → f j ≡ g j) → partials n f ≡ partials n g
unfolding partials
partials_same n f g h =
    turns_same (n - 0) f g (replicate 27 zero64) (λ j b. h j (rw (sub-zero n) at b))

-- ---- in the room

-- n partials laid at the front of room for 27
pub partials_laid : (n : ℕ) (f : ℕ → Float) (l : List Float) → n ≤ 27 → length l ≡ n → ((j : ℕ) → j < n → get_or l j nan ≡ f j)
    → l ++ drop n (replicate 27 zero64) ≡ partials n f
unfolding partials
partials_laid n f l h e q =
    let z = replicate 27 zero64 in
    let g : ℕ → Float = λ i. cond (ltb i n) (f i) zero64 in
    let long : length (l ++ drop n z) ≡ 27 = length-append l (drop n z) ∙ omega (arith, e, length-drop n z, length-replicate 27 zero64) in
    ext_get_or nan (l ++ drop n z) (listed 0 27 g) (long ∙ sym (length-listed 0 27 g))
    (λ i b.
    let low : i < 27 = omega (arith, long) in
    by_two (ltb i n)
    (λ t.
    let j = ltb-true i n t in
    get_or-append l (drop n z) nan i (omega (arith, e)) ∙ q i j ∙ sym (nth_listed 27 i g nan low ∙ rw t))
    (λ t.
    let j = ltb-false i n t in
    let at : length l + (i - n) ≡ i = omega (arith, e) in
    ap (λ (k : ℕ). get_or (l ++ drop n z) k nan) (sym at) ∙ get_or-append-add l (drop n z) (i - n) nan ∙ get_or-drop n z (i - n) nan
    ∙ get_or-replicate 27 (n + (i - n)) zero64 nan (omega arith)
    ∙ sym (nth_listed 27 i g nan low ∙ rw t)))
    ∙ sym (set_front f zero64 27 n h)
