-- A test of every index: told index by index, kept by a loop in a flag, and made by a loop that returns at the first failure. Assumes nothing.
use mathlib.Core.Path.{◌≡◌, refl, sym, ap, ◌∙◌}
use mathlib.Core.Bool.{Bool, true, false, not, ◌&&◌, ◌||◌, and-true, and_assoc}
use mathlib.Core.Logic.{inl, inr}
use Prim.Native.Nat.{ℕ, zero, suc, ◌+◌, ◌-◌, ◌≤◌, ◌<◌, zero-le}
use native.Mathlib.Nat.{le_of_suc-le-suc, not-suc-le-zero, eq-or-lt_of_le, add-zero, add-suc}
use native.Mathlib.Omega.{arith}
use native.Mathlib.Numerals.{add-one}
use Rattle.meaning.specs.Search.{every}
use Rattle.meaning.proofs.Tests.{no, refuted, same_test, and_left, and_right, and_both}

pub every-none : (p : ℕ → Bool) → true ≡ every 0 p
unfolding every
every-none p = refl

pub all : (n : ℕ) (p : ℕ → Bool) → ((i : ℕ) → i < n → p i ≡ true) → every n p ≡ true
unfolding every
all zero p h = refl
all (suc n) p h = ap (λ (b : Bool). b && p n) (all n p (λ i l. h i (omega arith))) ∙ h n (omega arith)

pub each : (n : ℕ) (p : ℕ → Bool) → every n p ≡ true → (i : ℕ) → i < n → p i ≡ true
unfolding every
each zero p h i l = absurd (not-suc-le-zero l)
each (suc n) p h i l =
    elim (eq-or-lt_of_le (le_of_suc-le-suc l)) [ inl e ↦ ap p e ∙ and_right (every n p) (p n) h | inr g ↦ each n p (and_left (every n p) (p n) h) i g ]

-- ---- the same test otherwise: by another test at each index, the first index apart, past indices at which it holds, backwards, and two tests at once

pub every_same : (n : ℕ) (p q : ℕ → Bool) → ((i : ℕ) → i < n → p i ≡ q i) → every n p ≡ every n q
unfolding every
every_same zero p q h = refl
every_same (suc n) p q h = λ j. every_same n p q (λ i l. h i (omega arith)) j && h n (omega arith) j

pub every_front : (n : ℕ) (p : ℕ → Bool) → every (suc n) p ≡ (p 0 && every n (λ i. p (suc i)))
unfolding every
every_front zero p = sym (and-true (p 0))
every_front (suc n) p = ap (λ (b : Bool). b && p (suc n)) (every_front n p) ∙ and_assoc (p 0) (every n (λ i. p (suc i))) (p (suc n))

pub every-past : (k n : ℕ) (p : ℕ → Bool) → every k p ≡ true → every (k + n) p ≡ every n (λ i. p (k + i))
unfolding every
every-past k zero p h = ap (λ (z : ℕ). every z p) (add-zero k) ∙ h
every-past k (suc n) p h = ap (λ (z : ℕ). every z p) (add-suc k n) ∙ ap (λ (b : Bool). b && p (k + n)) (every-past k n p h)

pub every_back : (n : ℕ) (p : ℕ → Bool) → every n p ≡ every n (λ i. p (n - 1 - i))
every_back n p =
    same_test _ _ (λ h. all n _ (λ i l. each n p h (n - 1 - i) (omega arith)))
    (λ h. all n p (λ i l. let e : i ≡ n - 1 - (n - 1 - i) = omega arith in ap p e ∙ each n (λ i. p (n - 1 - i)) h (n - 1 - i) (omega arith)))

pub every_both : (n : ℕ) (p q : ℕ → Bool) → (every n p && every n q) ≡ every n (λ i. p i && q i)
every_both n p q =
    same_test _ _
    (λ h. all n _ (λ i l. and_both (p i) (q i) (each n p (and_left (every n p) (every n q) h) i l) (each n q (and_right (every n p) (every n q) h) i l)))
    (λ h. and_both (every n p) (every n q)
    (all n p (λ i l. and_left (p i) (q i) (each n (λ i. p i && q i) h i l)))
    (all n q (λ i l. and_right (p i) (q i) (each n (λ i. p i && q i) h i l))))

-- one index more is tested: a flag that a turn joins with its test, and one that a turn raises where its test fails
pub every_next : (p : ℕ → Bool) (k : ℕ) {old test new : Bool} → old ≡ every k p → test ≡ p k → new ≡ (old && test) → new ≡ every (k + 1) p
unfolding every
every_next p k e h n = rw (add-one k) (n ∙ rw (e, h))

not_and : (a b : Bool) → (not a || not b) ≡ not (a && b)
not_and true b = refl
not_and false b = refl

pub spoilt_next : (p : ℕ → Bool) (k : ℕ) {old test new : Bool} → old ≡ not (every k p) → test ≡ p k → new ≡ (old || not test) → new ≡ not (every (k + 1) p)
unfolding every
spoilt_next p k e h n = rw (add-one k) (n ∙ rw (e, h) (not_and (every k p) (p k)))

-- ---- a loop that returns at the first failure: the test holds at the indices below k

pub record Holds (p : ℕ → Bool) (n k : ℕ) : Type 0 where
  pub within : k ≤ n
  pub sofar : true ≡ every k p

module _ {p : ℕ → Bool} {n : ℕ} where
  pub start : Holds p n 0
  start = record { within = zero-le; sofar = every-none p }

  module _ {k : ℕ} (a : Holds p n k) where
    pub on : k < n → p k ≡ true → Holds p n (k + 1)
    on h e = record { within = omega arith; sofar = every_next p k a.sofar refl (sym e) }

    pub fails : k < n → p k ≡ false → false ≡ every n p
    fails h e = sym (refuted (every n p) (λ t. no (sym e ∙ each n p t k h)))

    pub holds : n ≤ k → true ≡ every n p
    holds h = let q : k ≡ n = omega (arith, a.within) in a.sofar ∙ ap (λ (i : ℕ). every i p) q
