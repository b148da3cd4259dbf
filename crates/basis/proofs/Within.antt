-- What code reads within a list is what the definitions read there. Assumes nothing.
use Rattle.std.proofs.Common.{◌≡◌, ap, ◌∙◌, ℕ, ◌+◌, ◌-◌, ◌<◌, ◌≤◌, List, [], ◌∷◌, length, get_or, arith}
use Rattle.std.proofs.lemmas.List.{get_or_default}
use Rattle.meaning.specs.Scalar.{Ops}
use Rattle.meaning.specs.Table.{at1}
use Rattle.basis.specs.Basis.{window}

-- the difference of t and a knot, from the knot as it was read
module _ {A : Type 0} (o : Ops A) (w : List A) {t d : A} (i : ℕ) (h : i < length w) (x : A) where
  pub left_of : d ≡ o.minus t (get_or w i x) → d ≡ o.minus t (at1 o w i)
  left_of e = e ∙ ap (o.minus t) (get_or_default w i x o.off h)

  pub right_of : d ≡ o.minus (get_or w i x) t → d ≡ o.minus (at1 o w i) t
  right_of e = e ∙ ap (λ k. o.minus k t) (get_or_default w i x o.off h)

-- the six knots of a span, as they were read from the whole list
module _ {A : Type 0} (o : Ops A) (u : List A) where
  knot_of : (i k : ℕ) (x : A) → i ≡ k → i < length u → get_or u i x ≡ at1 o u k
  knot_of i k x e h = get_or_default u i x o.off h ∙ ap (at1 o u) e

  pub window_of : (i : ℕ) (a b c d e f : A)
      → 3 ≤ i → i + 3 < length u
      → (get_or u (i - 2) a ∷ get_or u (i - 1) b ∷ get_or u i c ∷ get_or u (i + 1) d ∷ get_or u (i + 2) e ∷ get_or u (i + 3) f ∷ []) ≡ window o u i
  window_of i a b c d e f l h =
      let first = knot_of (i - 2) (i - 2 + 0) a (omega arith) (omega arith) in
      let second = knot_of (i - 1) (i - 2 + 1) b (omega arith) (omega arith) in
      let third = knot_of i (i - 2 + 2) c (omega arith) (omega arith) in
      let fourth = knot_of (i + 1) (i - 2 + 3) d (omega arith) (omega arith) in
      let fifth = knot_of (i + 2) (i - 2 + 4) e (omega arith) (omega arith) in
      let last = knot_of (i + 3) (i - 2 + 5) f (omega arith) (omega arith) in
      λ j. first j ∷ second j ∷ third j ∷ fourth j ∷ fifth j ∷ last j ∷ []
