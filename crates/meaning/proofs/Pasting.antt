-- Lists put into another one behind the other. Assumes nothing.
use mathlib.Core.Path.{◌≡◌, sym, ap, ◌∙◌}
use mathlib.Core.List.{List, ◌++◌, append_assoc}
use Prim.Native.Nat.{ℕ, ◌+◌, ◌≤◌}
use native.Mathlib.Nat.{add_assoc, le_refl}
use lib.ListN.{length, take, drop, length-append}
use lib.Seq.{paste, take-paste, drop-paste, take-length, drop-drop}

-- two lists, each in its place
pub twice : {A : Type 0} (out t u : List A) (at : ℕ) → at ≤ length out
    → paste (paste out at t (length t)) (at + length t) u (length u) ≡ paste out at (t ++ u) (length (t ++ u))
twice {A} out t u at h =
    let front : take (at + length t) (paste out at t (length t)) ≡ take at out ++ t =
    take-paste out at t (length t) h (le_refl (length t)) ∙ ap (λ (l : List A). take at out ++ l) (take-length t) in
    let back : drop (at + length t + length u) (paste out at t (length t)) ≡ drop (at + length t + length u) out =
    sym (drop-drop (length u) (at + length t) (paste out at t (length t)))
    ∙ ap (drop (length u)) (drop-paste out at t (length t) h (le_refl (length t)))
    ∙ drop-drop (length u) (at + length t) out in
    let all : at + length t + length u ≡ at + length (t ++ u) = add_assoc at (length t) (length u) ∙ ap (λ (n : ℕ). at + n) (sym (length-append t u)) in
    let whole : (take at out ++ t) ++ u ≡ take at out ++ take (length (t ++ u)) (t ++ u) =
    append_assoc (take at out) t u ∙ ap (λ (l : List A). take at out ++ l) (sym (take-length (t ++ u))) in
    (λ i. (front i ++ take-length u i) ++ back i) ∙ (λ i. whole i ++ drop (all i) out)
