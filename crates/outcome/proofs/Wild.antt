-- Numbers that are not finite, and those past a list's end, which are not either. Assumes nothing.
use mathlib.Core.Path.{◌≡◌, refl, sym, ap, ◌∙◌}
use mathlib.Core.Bool.{Bool, true, false, not}
use mathlib.Core.List.{List}
use Prim.Native.Nat.{ℕ, ◌≤◌, ◌<◌, ◌+◌, zero-le, min}
use native.Mathlib.Nat.{le_refl, min-le_left, min-le_right, min-eq_left, min-eq_right}
use native.Mathlib.Omega.{arith}
use borrow.Author.Tests.{not-false, not-true, leb-true, leb-false, ltb-true, ltb-false}
use lib.ListN.{length, take, get_or-eq_default}
use lib.Seq.{length-take-le, get_or-take}
use lib.Dec.{leb, ltb}
use lib.Ieee.{Float, nan}
use lib.Ieee.Scale.{finite}
use Rattle.meaning.specs.Scalar.{plain}
use Rattle.meaning.specs.Table.{at1}
use Rattle.meaning.proofs.Searching.{none_found, found_none, nowhere_found, seek_is, seek-first, all_some}
use Rattle.meaning.specs.Search.{seek}
use Rattle.std.specs.List.{list_all}
use Rattle.meaning.proofs.Tests.{no, by_two}
use Rattle.outcome.specs.Outcome.{some_wild}

pub past : (l : List Float) (i : ℕ) → length l ≤ i → not (finite (at1 plain l i)) ≡ true
past l i h = ap (λ (x : Float). not (finite x)) (get_or-eq_default l nan h)

-- none of the first k numbers is wild
pub each_finite : (l : List Float) (k : ℕ) → some_wild l k ≡ false → (i : ℕ) → i < k → finite (at1 plain l i) ≡ true
each_finite l k h i g = not-false _ (none_found (λ i. not (finite (at1 plain l i))) 0 k h i zero-le g)

pub none_wild : (l : List Float) (k : ℕ) → ((i : ℕ) → i < k → finite (at1 plain l i) ≡ true) → some_wild l k ≡ false
none_wild l k h = found_none (λ i. not (finite (at1 plain l i))) 0 k (λ i g l. ap not (h i l))

-- so there are as many
pub tame_long : (l : List Float) (k : ℕ) → some_wild l k ≡ false → k ≤ length l
tame_long l k h =
    by_two (leb k (length l)) (λ p. leb-true k (length l) p)
    (λ p. no (sym (ap not (each_finite l k h (length l) (leb-false k (length l) p))) ∙ past l (length l) (le_refl _)))

-- ---- the first that is wild, found among those of the first k numbers that are there

abbrev wild_at : List Float → ℕ → Bool
wild_at l i = not (finite (at1 plain l i))

-- where each is finite there is none
pub finite_seeks : (l : List Float) → list_all (λ x. finite x) l ≡ true → length l ≡ seek 0 (length l) (wild_at l)
finite_seeks l h =
    nowhere_found (wild_at l) 0 (length l) zero-le
    (none_found (wild_at l) 0 (length l)
    (not-true _ (sym (all_some (λ x. finite x) nan l (wild_at l) 0 (length l) (omega arith) (λ i g. let e : 0 + i ≡ i = omega arith in rw e refl)) ∙ h)))

-- an index past those that are there, of k
past_front : (n k s : ℕ) → min k n ≤ s → s < k → n ≤ s
past_front n k s h g =
    by_two (leb k n) (λ p. let e : min k n ≡ k = min-eq_left (leb-true k n p) in absurd (omega (arith, h, g, e)))
    (λ p.
    let l = leb-false k n p in
    let e : min k n ≡ n = min-eq_right (omega (arith, l)) in
    omega (arith, h, e))

-- past those that are there is the next
pub front_seeks : (l : List Float) (k r : ℕ) → let front = take (min k (length l)) l in
    r ≡ seek 0 (length front) (wild_at front) → r ≡ seek 0 k (wild_at l)
front_seeks l k r e =
    let m = min k (length l) in
    let front = take m l in
    let few = min-le_left k (length l) in
    let long : length front ≡ m = length-take-le m l (min-le_right k (length l)) in
    let f = seek-first (wild_at front) 0 (length front) zero-le in
    let there : (i : ℕ) → i < m → wild_at front i ≡ wild_at l i = λ i h. ap (λ (x : Float). not (finite x)) (get_or-take m l i nan h) in
    let s = seek 0 (length front) (wild_at front) in
    e
    ∙ seek_is (wild_at l) 0 k s
    (record {
      low = zero-le;
      high = omega (arith, f.high, long, few);
      before = λ i g h. sym (there i (omega (arith, f.high, long))) ∙ f.before i g h;
      found = λ h.
          by_two (ltb s m) (λ p. let q = ltb-true s m p in sym (there s q) ∙ f.found (omega (arith, q, long)))
          (λ p. past l s (past_front (length l) k s (ltb-false s m p) h));
    })
