-- What `seek` and `some` answer, and the invariant of a loop that searches upwards and returns at the first find. Assumes nothing.
use mathlib.Core.Path.{◌≡◌, refl, sym, ap, ◌∙◌}
use mathlib.Core.Bool.{Bool, true, false, not, ◌&&◌, cond}
use mathlib.Core.List.{List, [], ◌∷◌}
use mathlib.Core.Logic.{inl, inr}
use Prim.Native.Nat.{ℕ, zero, suc, ◌+◌, ◌-◌, ◌≤◌, ◌<◌, min}
use native.Mathlib.Nat.{le_refl, eq-or-lt_of_le, min-le_left, min-le_right}
use native.Mathlib.Omega.{arith}
use borrow.Author.Count.{below_more}
use borrow.Author.Tests.{ltb-true, ltb-false, lt-ltb, le-ltb, not-true, not-false}
use lib.ListN.{length, get_or}
use Rattle.std.specs.List.{fold, list_all, zip, AllWithin, HoldsAt}
use Rattle.std.specs.Prelude.{Option, None, Some, MatchOption}
use Rattle.std.specs.Option.{unwrap_or}
use Rattle.std.proofs.lemmas.Slice.Zip.{length-zip, get_or-zip}
use Rattle.std.proofs.lemmas.List.Folds.{list_all_at}
use Rattle.meaning.specs.Search.{seek_from, seek, some}
use Rattle.meaning.specs.Nowhere.{Nowhere}

-- r is the first index from lo on, below hi, at which p holds, or it is hi and there is none
pub record First (p : ℕ → Bool) (lo hi r : ℕ) : Type 0 where
  pub low : lo ≤ r
  pub high : r ≤ hi
  pub before : (i : ℕ) → lo ≤ i → i < r → p i ≡ false
  pub found : r < hi → p r ≡ true

module _ (p : ℕ → Bool) where
  from_is : (d i r : ℕ) → First p i (i + d) r → r ≡ seek_from i d p
  unfolding seek_from
  from_is zero i r f = omega arith
  from_is (suc d) i r f = elim (eq-or-lt_of_le f.low) [ inl e ↦ here e | inr l ↦ later l (from_is d (suc i) r) ]
    where
      here : i ≡ r → r ≡ cond (p i) i (seek_from (suc i) d p)
      here e = let h : p i ≡ true = ap p e ∙ f.found (omega arith) in rw h (sym e)

      later : i < r → (First p (suc i) (suc i + d) r → r ≡ seek_from (suc i) d p) → r ≡ cond (p i) i (seek_from (suc i) d p)
      later l more =
          let h : p i ≡ false = f.before i (le_refl i) l in
          rw h
          (more
          (record { low = omega arith; high = omega (arith, f.high); before = λ j g k. f.before j (omega arith) k; found = λ k. f.found (omega arith) }))

  from_first : (d i : ℕ) → First p i (i + d) (seek_from i d p)
  unfolding seek_from
  from_first zero i = record { low = le_refl i; high = omega arith; before = λ j g k. absurd (omega arith); found = λ k. absurd (omega arith) }
  from_first (suc d) i = by (p i) refl (from_first d (suc i))
    where
      by : (b : Bool) → p i ≡ b → First p (suc i) (suc i + d) (seek_from (suc i) d p) → First p i (i + suc d) (cond b i (seek_from (suc i) d p))
      by true e f = record { low = le_refl i; high = omega arith; before = λ j g k. absurd (omega arith); found = λ k. e }
      by false e f =
          record {
            low = omega (arith, f.low);
            high = omega (arith, f.high);
            before = λ j g k. elim (eq-or-lt_of_le g) [ inl q ↦ ap p (sym q) ∙ e | inr l ↦ f.before j l k ];
            found = λ k. f.found (omega arith);
          }

  module _ (lo hi : ℕ) where
    pub seek_is : (r : ℕ) → First p lo hi r → r ≡ seek lo hi p
    seek_is r f =
        let e : lo + (hi - lo) ≡ hi = omega (arith, f.low, f.high) in
        from_is (hi - lo) lo r (rw e f)

    pub seek-first : lo ≤ hi → First p lo hi (seek lo hi p)
    seek-first h = let e : lo + (hi - lo) ≡ hi = omega arith in rw e at (from_first (hi - lo) lo)

    -- `some`
    pub some-found : some lo hi p ≡ true → (lo ≤ seek lo hi p) × ((seek lo hi p < hi) × (p (seek lo hi p) ≡ true))
    some-found h =
        let l = (from_first (hi - lo) lo).low in
        let g : seek lo hi p < hi = ltb-true _ _ h in
        let f = seek-first (omega arith) in
        (l, (g, f.found g))

    pub none_found : some lo hi p ≡ false → (i : ℕ) → lo ≤ i → i < hi → p i ≡ false
    none_found h i g l = let f = seek-first (omega arith) in f.before i g (omega (arith, ltb-false (seek lo hi p) hi h))

    pub found_some : (i : ℕ) → lo ≤ i → i < hi → p i ≡ true → some lo hi p ≡ true
    found_some i g l e = by (some lo hi p) refl
      where
        by : (b : Bool) → some lo hi p ≡ b → b ≡ true
        by true q = refl
        by false q = sym (none_found q i g l) ∙ e

    pub found_none : ((i : ℕ) → lo ≤ i → i < hi → p i ≡ false) → some lo hi p ≡ false
    found_none n = by (some lo hi p) refl
      where
        by : (b : Bool) → some lo hi p ≡ b → b ≡ false
        by true q = let f = some-found q in sym f.1.1 ∙ n _ f.0 f.1.0
        by false q = refl

-- ---- the loop: before index k the test has failed at each index from lo on

pub record Passed (p : ℕ → Bool) (lo hi k : ℕ) : Type 0 where
  pub low : lo ≤ k
  pub high : k ≤ hi
  pub before : (i : ℕ) → lo ≤ i → i < k → p i ≡ false

module _ {p : ℕ → Bool} {lo hi : ℕ} where
  pub passed : lo ≤ hi → Passed p lo hi lo
  passed h = record { low = le_refl lo; high = h; before = λ i g l. absurd (omega arith) }

  pub onward : {k : ℕ} → Passed p lo hi k → k < hi → p k ≡ false → Passed p lo hi (k + 1)
  onward {k} a h e =
      record {
        low = omega arith;
        high = omega arith;
        before = λ i g l. below_more (λ j. lo ≤ j → p j ≡ false) k (λ j m h. a.before j h m) (λ h. e) i l g;
      }

  pub found : {k : ℕ} → Passed p lo hi k → k < hi → p k ≡ true → k ≡ seek lo hi p
  found {k} a h e = seek_is p lo hi k (record { low = a.low; high = a.high; before = a.before; found = λ l. e })

  pub ended : {k : ℕ} → Passed p lo hi k → hi ≤ k → hi ≡ seek lo hi p
  ended {k} a h =
      seek_is p lo hi hi (record { low = omega (arith, a.low, a.high); high = le_refl hi; before = λ i g l. a.before i g (omega (arith, a.high)); found = λ l. absurd (omega arith) })

-- ---- a pass before the loop, which keeps in a flag that the test has failed so far: where the flag stands at the end, there is nothing to find

module _ (p : ℕ → Bool) (lo : ℕ) where
  pub nowhere_yet : Nowhere p lo lo
  nowhere_yet i g l = absurd (omega arith)

  pub nowhere_more : (k : ℕ) → Nowhere p lo k → p k ≡ false → Nowhere p lo (k + 1)
  nowhere_more k a e i g l = below_more (λ j. lo ≤ j → p j ≡ false) k (λ j m h. a j h m) (λ h. e) i l g

  pub nowhere_found : (hi : ℕ) → lo ≤ hi → Nowhere p lo hi → hi ≡ seek lo hi p
  nowhere_found hi h a = ended {p = p} {lo = lo} {hi = hi} (record { low = h; high = le_refl hi; before = a }) (le_refl hi)

-- ---- what the answer of such a loop tells

module _ (p : ℕ → Bool) (lo hi : ℕ) {r : ℕ} where
  pub told-some : r ≡ seek lo hi p → r < hi → some lo hi p ≡ true
  told-some e h = lt-ltb (seek lo hi p) hi (rw e at h)

  pub told_none : r ≡ seek lo hi p → hi ≤ r → some lo hi p ≡ false
  told_none e h = le-ltb (seek lo hi p) hi (rw e at h)

-- ---- a pass over a list that keeps in a flag whether each item so far has passed a test, and never stops early

module _ {X : Type 0} (t : X → Bool) where
  pub kept_all : (xs : List X) (b : Bool) → fold (λ f x. f && t x) b xs ≡ b && list_all t xs
  kept_all [] true = refl
  kept_all [] false = refl
  kept_all (x ∷ xs) true = kept_all xs (t x)
  kept_all (x ∷ xs) false = kept_all xs false

  each_passes : (d : X) (xs : List X) → ((i : ℕ) → i < length xs → t (get_or xs i d) ≡ true) → list_all t xs ≡ true
  each_passes d [] h = refl
  each_passes d (x ∷ xs) h = rw (h 0 (omega arith)) (each_passes d xs (λ i l. h (suc i) (omega arith)))

  -- it stands where a search along as many indices, for one at which the test fails, finds none
  pub all_some : (d : X) (xs : List X) (p : ℕ → Bool) (lo hi : ℕ) → lo + length xs ≡ hi
      → ((i : ℕ) → i < length xs → p (lo + i) ≡ not (t (get_or xs i d))) → list_all t xs ≡ not (some lo hi p)
  all_some d xs p lo hi long same = by (some lo hi p) refl
    where
      by : (b : Bool) → some lo hi p ≡ b → list_all t xs ≡ not b
      by true q =
          let f = some-found p lo hi q in
          let i = seek lo hi p - lo in
          let here : lo + i ≡ seek lo hi p = omega (arith, f.0) in
          let low : i < length xs = omega (arith, f.0, f.1.0) in
          list_all_at t xs i d low (not-true _ (sym (same i low) ∙ ap p here ∙ f.1.1))
      by false q = each_passes d xs (λ i l. not-false _ (sym (same i l) ∙ none_found p lo hi q (lo + i) (omega arith) (omega arith)))

-- the same over pairs from two lists
module _ {X Y : Type 0} (t : X × Y → Bool) (d : X) (e : Y) (xs : List X) (ys : List Y) where
  pub pairs_some : (p : ℕ → Bool) (lo hi : ℕ) → lo + min (length xs) (length ys) ≡ hi
      → ((i : ℕ) → i < length xs → i < length ys → p (lo + i) ≡ not (t (get_or xs i d, get_or ys i e)))
      → (b : Bool) → fold (λ f q. f && t q) b (zip xs ys) ≡ b && not (some lo hi p)
  pairs_some p lo hi long same b =
      let n = length-zip xs ys in
      kept_all t (zip xs ys) b
      ∙ ap (λ (r : Bool). b && r)
      (all_some t (d, e) (zip xs ys) p lo hi (rw n long)
      (λ i l.
      let first : i < length xs = omega (arith, n, min-le_left (length xs) (length ys)) in
      let second : i < length ys = omega (arith, n, min-le_right (length xs) (length ys)) in
      same i first second ∙ ap (λ (q : X × Y). not (t q)) (sym (get_or-zip xs ys i (d, e) first second))))

-- what `position` answers in a list
module _ {X : Type 0} (t : X → Bool) (d : X) (xs : List X) where
  pub position_seeks : (r : Option ℕ)
      → MatchOption r (AllWithin (λ x. t x ≡ false) xs 0 (length xs)) (λ i. (i < length xs) × HoldsAt (λ x. t x ≡ true) xs i × AllWithin (λ x. t x ≡ false) xs 0 i)
      → unwrap_or r (length xs) ≡ seek 0 (length xs) (λ i. t (get_or xs i d))
  position_seeks None h =
      nowhere_found (λ i. t (get_or xs i d)) 0 (length xs) (omega arith) (λ i g l. h i d g l)
  position_seeks (Some i) h =
      seek_is (λ j. t (get_or xs j d)) 0 (length xs) i
      (record { low = omega arith; high = omega (arith, h.0); before = λ j g l. h.2 j d g l; found = λ l. h.1 d })
