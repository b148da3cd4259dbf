-- Samples one after the other, as the loops take them: those of a span by their indices, those of the pairs, and the domain's end. Assumes nothing.
use mathlib.Core.Path.{◌≡◌, refl, sym, ap, ◌∙◌}
use mathlib.Core.List.{List, [], ◌∷◌, ◌++◌}
use Prim.Native.Nat.{ℕ, zero, suc, ◌+◌, ◌-◌}
use native.Mathlib.Nat.{add-zero}
use native.Mathlib.Omega.{arith}
use lib.Ieee.{Float}
use Rattle.meaning.specs.Loops.{turns, run}
use Rattle.meaning.specs.Search.{listed}
use Rattle.plane.specs.Vector.{Vector}
use Rattle.shape.specs.Shape.{Shape}
use Rattle.samples.specs.Samples.{pair_samples, pairs_of, samples_of}
use Rattle.closest.specs.Search.{to}
use Rattle.closest.specs.Sampling.{through, sampled, unsampled, best_sample}
use Rattle.closest.specs.declared.Best.{Best}

-- the first turn of a loop, and the others
turn_first : {S : Type 0} (lo n : ℕ) (f : ℕ → S → S) (s : S) → turns lo (suc n) f s ≡ turns (suc lo) n f (f lo s)
unfolding turns
turn_first lo zero f s = ap (λ (k : ℕ). f k s) (add-zero lo)
turn_first lo (suc n) f s = let e : lo + suc n ≡ suc lo + n = omega arith in λ i. f (e i) (turn_first lo n f s i)

-- numbers by their indices
pub through-listed : {S : Type 0} (f : S → Float → S) (lo n : ℕ) (g : ℕ → Float) (s : S) → turns lo n (λ k x. f x (g k)) s ≡ through f (listed lo n g) s
unfolding through turns listed
through-listed f lo zero g s = refl
through-listed f lo (suc n) g s = turn_first lo n (λ k x. f x (g k)) s ∙ through-listed f (suc lo) n g (f s (g lo))

module _ {S : Type 0} (f : S → Float → S) where
  -- one list after the other
  through_append : (l r : List Float) (s : S) → through f (l ++ r) s ≡ through f r (through f l s)
  unfolding through
  through_append [] r s = refl
  through_append (t ∷ l) r s = through_append l r (f s t)

  -- many lists, one after the other
  through_lists : (n : ℕ) (g : ℕ → List Float) (s : S) → turns 0 n (λ i x. through f (g i) x) s ≡ through f (turns 0 n (λ i l. l ++ g i) []) s
  unfolding through turns
  through_lists zero g s = refl
  through_lists (suc n) g s =
      ap (λ (x : S). through f (g (0 + n)) x) (through_lists n g s) ∙ sym (through_append (turns 0 n (λ i l. l ++ g i) []) (g (0 + n)) s)

-- all of the samples: the pairs', and then the domain's end
pub nearest_of_all : (c : Shape Float) (p : Vector Float) {b r : Best} → b ≡ run 0 (c.n + 3) (λ i x. through (sampled c p) (pair_samples c.knots 16 i) x) (unsampled c p)
    → r ≡ sampled c p b (to c) → r ≡ best_sample c p
unfolding best_sample samples_of through
nearest_of_all c p e q =
    let pairs = pairs_of c.n c.knots 16 in
    q
    ∙ ap (λ (x : Best). sampled c p x (to c)) (e ∙ through_lists (sampled c p) (c.n + 3 - 0) (pair_samples c.knots 16) (unsampled c p))
    ∙ sym (through_append (sampled c p) pairs (to c ∷ []) (unsampled c p))
