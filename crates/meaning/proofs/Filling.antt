-- A list filled index by index, as a loop fills an array: its invariant, and what it leaves. Assumes nothing.
use mathlib.Core.Path.{◌≡◌, refl, sym, ap, ◌∙◌}
use mathlib.Core.Bool.{cond}
use mathlib.Core.List.{List, ◌∷◌, map}
use Prim.Native.Nat.{ℕ, zero, suc, ◌+◌, ◌≤◌, ◌<◌, zero-le}
use native.Mathlib.Nat.{suc-add, zero-add, add-zero, add-suc, sub-zero}
use native.Mathlib.Omega.{arith}
use borrow.Author.Count.{below_more}
use borrow.Author.Tests.{ltb-true, ltb-false, eqb-true, eqb-false, lt-ltb, le-ltb}
use lib.Dec.{ltb, eqb}
use lib.ListN.{length, get_or, set, take, replicate, length-set}
use lib.Seq.{ext_get_or, get_or-set_same, get_or-set_other, get_or-take, length-take-le}
use Rattle.meaning.specs.Loops.{turns, run}
use Rattle.meaning.specs.Search.{listed}
use Rattle.meaning.proofs.Tests.{by_two}

module _ {A : Type 0} where
  pub length-listed : (i d : ℕ) (f : ℕ → A) → length (listed i d f) ≡ d
  unfolding listed
  length-listed i zero f = refl
  length-listed i (suc d) f = ap suc (length-listed (suc i) d f)

  pub at_listed : (i d j : ℕ) (f : ℕ → A) (z : A) → j < d → get_or (listed i d f) j z ≡ f (i + j)
  unfolding listed
  at_listed i zero j f z h = absurd (omega arith)
  at_listed i (suc d) zero f z h = ap f (sym (add-zero i))
  at_listed i (suc d) (suc j) f z h = at_listed (suc i) d j f z (omega arith) ∙ ap f (suc-add i j ∙ sym (add-suc i j))

  -- from 0 on
  pub nth_listed : (d j : ℕ) (f : ℕ → A) (z : A) → j < d → get_or (listed 0 d f) j z ≡ f j
  nth_listed d j f z h = at_listed 0 d j f z h ∙ ap f (zero-add j)

  pub listed_same : (i d : ℕ) (z : A) → replicate d z ≡ listed i d (λ j. z)
  unfolding listed
  listed_same i zero z = refl
  listed_same i (suc d) z = ap (λ (l : List A). z ∷ l) (listed_same (suc i) d z)

-- a list by its indices, mapped
pub map_listed : {A B : Type 0} (g : A → B) (i d : ℕ) (f : ℕ → A) → map g (listed i d f) ≡ listed i d (λ j. g (f j))
unfolding listed
map_listed g i zero f = refl
map_listed g i (suc d) f = ap (λ l. g (f i) ∷ l) (map_listed g (suc i) d f)

-- the entries below k are those of f, in a list of d
pub record Filled {A : Type 0} (f : ℕ → A) (z : A) (d k : ℕ) (l : List A) : Type 0 where
  pub long : length l ≡ d
  pub high : k ≤ d
  pub same : (i : ℕ) → i < k → get_or l i z ≡ f i

module _ {A : Type 0} {f : ℕ → A} {z : A} {d : ℕ} where
  pub empty : {l : List A} → length l ≡ d → Filled f z d 0 l
  empty e = record { long = e; high = zero-le; same = λ i h. absurd (omega arith) }

  pub filled : {k : ℕ} {l : List A} {v : A} → Filled f z d k l → k < d → v ≡ f k → Filled f z d (k + 1) (set l k v)
  filled {k} {l} {v} a h e =
      record {
        long = length-set l k v ∙ a.long;
        high = omega arith;
        same = below_more (λ i. get_or (set l k v) i z ≡ f i) k (λ i m. get_or-set_other l k i v z (λ q. absurd (omega arith)) ∙ a.same i m)
            (get_or-set_same l k v z (omega (arith, a.long)) ∙ e);
      }

  pub full : {k : ℕ} {l : List A} → Filled f z d k l → d ≤ k → l ≡ listed 0 d f
  full {k} {l} a h =
      ext_get_or z l (listed 0 d f) (a.long ∙ sym (length-listed 0 d f))
      (λ i g. a.same i (omega (arith, a.long)) ∙ sym (nth_listed d i f z (omega (arith, a.long))))

  -- the front so far
  pub front : {k : ℕ} {l : List A} → Filled f z d k l → take k l ≡ listed 0 k f
  front {k} {l} a =
      let long : length (take k l) ≡ k = length-take-le k l (omega (arith, a.long, a.high)) in
      ext_get_or z (take k l) (listed 0 k f) (long ∙ sym (length-listed 0 k f))
      (λ i h. let low : i < k = omega arith in get_or-take k l i z low ∙ a.same i low ∙ sym (nth_listed k i f z low))

-- ---- the front of a room, the rest of which stays as it was made

module _ {A : Type 0} (f : ℕ → A) (z : A) (d : ℕ) where
  abbrev up_to : ℕ → ℕ → A
  up_to n i = cond (ltb i n) (f i) z

  none_yet : (i e : ℕ) → replicate e z ≡ listed i e (up_to 0)
  unfolding listed
  none_yet i zero = refl
  none_yet i (suc e) = rw (le-ltb i 0 zero-le) (ap (λ (l : List A). z ∷ l) (none_yet (suc i) e))

  up_to_more : (n i : ℕ) → (i ≡ n → ⊥) → up_to n i ≡ up_to (suc n) i
  up_to_more n i h =
      by_two (ltb i n) (λ e. let l = ltb-true i n e in rw (e, lt-ltb i (suc n) (omega arith)))
      (λ e. let l = ltb-false i n e in rw (e, le-ltb i (suc n) (omega (arith, h))))

  one_more : (n : ℕ) → n < d → set (listed 0 d (up_to n)) n (f n) ≡ listed 0 d (up_to (suc n))
  one_more n h =
      let l = listed 0 d (up_to n) in
      let long : length (set l n (f n)) ≡ d = length-set l n (f n) ∙ length-listed 0 d (up_to n) in
      ext_get_or z (set l n (f n)) (listed 0 d (up_to (suc n))) (long ∙ sym (length-listed 0 d (up_to (suc n))))
      (λ i g.
      let inside : i < d = omega arith in
      by_two (eqb i n)
      (λ e.
      let q = eqb-true i n e in
      ap (λ (k : ℕ). get_or (set l n (f n)) k z) q
      ∙ get_or-set_same l n (f n) z (omega (arith, length-listed 0 d (up_to n)))
      ∙ sym (ap (λ (k : ℕ). get_or (listed 0 d (up_to (suc n))) k z) q ∙ nth_listed d n (up_to (suc n)) z h ∙ rw (lt-ltb n (suc n) (omega arith))))
      (λ e.
      let q = eqb-false i n e in
      get_or-set_other l n i (f n) z q
      ∙ nth_listed d i (up_to n) z inside
      ∙ up_to_more n i q
      ∙ sym (nth_listed d i (up_to (suc n)) z inside)))

  set_turns : (n : ℕ) → n ≤ d → turns 0 n (λ i l. set l i (f i)) (replicate d z) ≡ listed 0 d (up_to n)
  unfolding turns
  set_turns zero h = none_yet 0 d
  set_turns (suc n) h =
      ap (λ (k : ℕ). set (turns 0 n (λ i l. set l i (f i)) (replicate d z)) k (f k)) (zero-add n)
      ∙ ap (λ (l : List A). set l n (f n)) (set_turns n (omega arith))
      ∙ one_more n (omega arith)

  -- what a loop over the first n indices leaves in a room of d
  pub set_front : (n : ℕ) → n ≤ d → run 0 n (λ i l. set l i (f i)) (replicate d z) ≡ listed 0 d (λ i. cond (ltb i n) (f i) z)
  set_front n h = ap (λ (k : ℕ). turns 0 k (λ i l. set l i (f i)) (replicate d z)) (sub-zero n) ∙ set_turns n h
