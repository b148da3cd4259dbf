-- Where every distance is finite, the loop over the samples finds the first of the nearest: the first of the least distances, though it compares squares
-- before. Assumes nothing.
use mathlib.Core.Path.{◌≡◌, refl, sym, ap, ◌∙◌, subst}
use mathlib.Core.Bool.{true, false, ◌&&◌, cond, true≢false}
use mathlib.Core.List.{List, [], ◌∷◌, ◌++◌}
use mathlib.Core.Logic.{◌⊎◌, inl, inr}
use Prim.Native.Nat.{ℕ, zero, suc, ◌+◌, ◌<◌, zero-le}
use native.Mathlib.Omega.{arith}
use borrow.Author.Tests.{ltb-true, ltb-false}
use lib.Dec.{ltb}
use lib.ListN.{length, length-append}
use lib.Ieee.{Float, nan, inf, fin, lt, le, is_nan}
use lib.Ieee.Scale.{finite}
use Rattle.meaning.specs.Scalar.{plain}
use Rattle.meaning.specs.Table.{at1}
use Rattle.meaning.specs.Loops.{run}
use Rattle.meaning.proofs.Order.{finite_no_nan, le_refl, lt_le, lt_trans, lt_le_trans, lt_not_le, not_lt_le}
use Rattle.meaning.proofs.Tests.{by_two, refuted, and_both, and_left, and_right, and-true, no}
use Rattle.meaning.proofs.Every.{all, each}
use Rattle.meaning.proofs.Searching.{seek_is}
use Rattle.plane.specs.Vector.{Vector}
use Rattle.shape.specs.Shape.{Shape}
use Rattle.point.specs.Point.{point_orders}
use Rattle.samples.specs.Samples.{pair_samples, samples_of}
use Rattle.distance_rule.specs.Squares.{limit_of}
use Rattle.distance_rule.proofs.Limits.{Limited, of_points, of_infinity, not_nearer, finite_distance_beyond}
use Rattle.closest.specs.Nearest.{away, is_nearest, first_nearest}
use Rattle.closest.specs.Search.{order_in, to, samples_in, distance_at, samples_fine, nearest_sample}
use Rattle.closest.specs.Sampling.{through, square_at, beyond_limit, next_best, sampled, unsampled, best_sample}
use Rattle.closest.specs.declared.Best.{Best}

-- a finite number is below infinity
below_infinity : (x : Float) → finite x ≡ true → lt x (inf false) ≡ true
unfolding lt
below_infinity nan h = no h
below_infinity (inf s) h = no h
below_infinity (fin s m e) h = refl

module _ (dist : Float → Float) where
  -- no number of l is nearer than d
  abbrev NoneNearer : Float → List Float → Type 0
  NoneNearer d l = (j : ℕ) → j < length l → le d (dist (at1 plain l j)) ≡ true

  -- t is the first number of l that is the nearest
  record FirstLeast (l : List Float) (t : Float) : Type 0 where
    pub i : ℕ
    pub inside : i < length l
    pub is : t ≡ at1 plain l i
    pub least : (j : ℕ) → j < length l → le (dist t) (dist (at1 plain l j)) ≡ true
    pub first : (j : ℕ) → j < i → lt (dist t) (dist (at1 plain l j)) ≡ true

  -- number k of l is the nearest, and each before it is farther away
  pub record IsFirst (l : List Float) (k : ℕ) : Type 0 where
    pub inside : k < length l
    pub least : (j : ℕ) → j < length l → le (away dist l k) (away dist l j) ≡ true
    pub first : (j : ℕ) → j < k → lt (away dist l k) (away dist l j) ≡ true

  -- there is one such k
  pub only_one : {l : List Float} {j k : ℕ} → IsFirst l j → IsFirst l k → j ≡ k
  only_one {l} {j} {k} a b =
      by_two (ltb j k) (λ h. absurd (crossed a b (ltb-true j k h))) (λ h.
      by_two (ltb k j) (λ g. absurd (crossed b a (ltb-true k j g))) (λ g. omega (arith, ltb-false j k h, ltb-false k j g)))
    where
      crossed : {j k : ℕ} → IsFirst l j → IsFirst l k → j < k → ⊥
      crossed {j} {k} a b h = true≢false (sym (a.least k b.inside) ∙ lt_not_le _ _ (b.first j h))

  by_index : {l : List Float} {t : Float} (f : FirstLeast l t) → IsFirst l f.i
  by_index f = record { inside = f.inside; least = rw f.is at f.least; first = rw f.is at f.first }

  -- it is the definition's
  first_is : {l : List Float} {k : ℕ} → IsFirst l k → k ≡ first_nearest dist l
  unfolding first_nearest
  first_is {l} {k} f =
      seek_is (is_nearest dist l) 0 (length l) k
      (record {
        low = zero-le;
        high = omega (arith, f.inside);
        before = λ j g h. refuted (is_nearest dist l j) (λ e. true≢false (sym (each (length l) _ e k f.inside) ∙ lt_not_le _ _ (f.first j h)));
        found = λ h. all (length l) _ f.least;
      })

module _ (c : Shape Float) (p : Vector Float) where
  abbrev all_of : List Float → Best → Best
  all_of l b = through (sampled c p) l b

  -- ---- one sample

  limited : (t : Float) → Limited (distance_at c p t) (limit_of (square_at c p t))
  unfolding distance_at square_at
  limited t = of_points (order_in (point_orders c t 0) 0) p

  -- one past the limit
  module _ (b : Best) (t : Float) (k : Limited b.d b.limit) (h : beyond_limit c p b t ≡ true) where
    from_limit : le b.limit (square_at c p t) ≡ true
    from_limit = and_left (le b.limit (square_at c p t)) (lt (square_at c p t) (inf false)) h

    under_infinity : lt (square_at c p t) (inf false) ≡ true
    under_infinity = and_right (le b.limit (square_at c p t)) (lt (square_at c p t) (inf false)) h

    not_less : lt (distance_at c p t) b.d ≡ false
    unfolding distance_at square_at
    not_less = not_nearer (order_in (point_orders c t 0) 0) p k from_limit under_infinity

    past_finite : finite (distance_at c p t) ≡ true
    unfolding distance_at square_at
    past_finite = finite_distance_beyond (order_in (point_orders c t 0) 0) p k from_limit under_infinity

  -- What a sample makes of the nearest so far, as far as t, the distance and the flag go: as if every distance were asked.
  record Step (b : Best) (t : Float) (r : Best) : Type 0 where
    at-t : r.t ≡ cond (lt (distance_at c p t) b.d) t b.t
    at-d : r.d ≡ cond (lt (distance_at c p t) b.d) (distance_at c p t) b.d
    at-fine : r.fine ≡ (b.fine && finite (distance_at c p t))
    limit : Limited r.d r.limit

  step : (b : Best) (t : Float) → Limited b.d b.limit → Step b t (sampled c p b t)
  unfolding sampled next_best
  step b t k = by_two (beyond_limit c p b t)
      (λ h. rw h (record {
        at-t = rw (not_less b t k h);
        at-d = rw (not_less b t k h);
        at-fine = rw (past_finite b t k h) (sym (and-true b.fine));
        limit = k;
      }))
      (λ h. rw h (record {
        at-t = refl;
        at-d = refl;
        at-fine = refl;
        limit = by_two (lt (distance_at c p t) b.d) (λ g. rw g (limited t)) (λ g. rw g k);
      }))

  -- ---- finite distances

  fine_before : (l : List Float) (b : Best) → Limited b.d b.limit → (all_of l b).fine ≡ true → b.fine ≡ true
  unfolding through
  fine_before [] b k h = h
  fine_before (t ∷ ts) b k h =
      let s = step b t k in
      and_left b.fine (finite (distance_at c p t)) (sym s.at-fine ∙ fine_before ts (sampled c p b t) s.limit h)

  finite_first : (t : Float) (ts : List Float) (b : Best) → Limited b.d b.limit → (all_of (t ∷ ts) b).fine ≡ true → finite (distance_at c p t) ≡ true
  unfolding through
  finite_first t ts b k h =
      let s = step b t k in
      and_right b.fine (finite (distance_at c p t)) (sym s.at-fine ∙ fine_before ts (sampled c p b t) s.limit h)

  -- every distance is finite, and the other way round
  all_finite : (l : List Float) (b : Best) → Limited b.d b.limit → (all_of l b).fine ≡ true → (j : ℕ) → j < length l → finite (distance_at c p (at1 plain l j)) ≡ true
  unfolding through
  all_finite [] b q h j k = absurd (omega arith)
  all_finite (t ∷ ts) b q h zero k = finite_first t ts b q h
  all_finite (t ∷ ts) b q h (suc j) k = all_finite ts (sampled c p b t) (step b t q).limit h j (omega arith)

  finite_all : (l : List Float) (b : Best) → Limited b.d b.limit → b.fine ≡ true → ((j : ℕ) → j < length l → finite (distance_at c p (at1 plain l j)) ≡ true) → (all_of l b).fine ≡ true
  unfolding through
  finite_all [] b q h g = h
  finite_all (t ∷ ts) b q h g =
      let s = step b t q in
      finite_all ts (sampled c p b t) s.limit (s.at-fine ∙ and_both b.fine (finite (distance_at c p t)) h (g 0 (omega arith))) (λ j k. g (suc j) (omega arith))

  -- ---- what the samples l make of b: it stays, or one of them takes its place
  record Stays (l : List Float) (b r : Best) : Type 0 where
    same_t : r.t ≡ b.t
    same_d : r.d ≡ b.d
    none : NoneNearer (distance_at c p) b.d l

  record Taken (l : List Float) (b r : Best) : Type 0 where
    own : r.d ≡ distance_at c p r.t
    less : lt r.d b.d ≡ true
    one : FirstLeast (distance_at c p) l r.t

  none_more : (d t : Float) (ts : List Float) → le d (distance_at c p t) ≡ true → NoneNearer (distance_at c p) d ts → NoneNearer (distance_at c p) d (t ∷ ts)
  none_more d t ts e h zero k = e
  none_more d t ts e h (suc j) k = h j (omega arith)

  first_more : (t : Float) (ts : List Float) {x : Float} → lt (distance_at c p x) (distance_at c p t) ≡ true → FirstLeast (distance_at c p) ts x → FirstLeast (distance_at c p) (t ∷ ts) x
  first_more t ts {x} e f =
      record {
        i = suc f.i;
        inside = omega (arith, f.inside);
        is = f.is;
        least = none_more (distance_at c p x) t ts (lt_le _ _ e) f.least;
        first = before;
      }
    where
      before : (j : ℕ) → j < suc f.i → lt (distance_at c p x) (distance_at c p (at1 plain (t ∷ ts) j)) ≡ true
      before zero k = e
      before (suc j) k = f.first j (omega arith)

  -- one sample in front, which leaves b₁
  module _ (t : Float) (ts : List Float) (b b₁ r : Best) (good : finite (distance_at c p t) ≡ true) where
    abbrev d : Float
    d = distance_at c p t

    -- it is nearer than b
    module _ (near : lt d b.d ≡ true) (at-t : b₁.t ≡ t) (at-d : b₁.d ≡ d) where
      itself : r.t ≡ t → NoneNearer (distance_at c p) d ts → FirstLeast (distance_at c p) (t ∷ ts) r.t
      itself e h =
          rw e
          (record {
            i = 0;
            inside = omega arith;
            is = refl;
            least = none_more d t ts (le_refl d (finite_no_nan d good)) h;
            first = λ j k. absurd (omega arith);
          })

      now_taken : Stays ts b₁ r ⊎ Taken ts b₁ r → Taken (t ∷ ts) b r
      now_taken (inl s) =
          let e : r.t ≡ t = s.same_t ∙ at-t in
          let q : r.d ≡ d = s.same_d ∙ at-d in
          record { own = q ∙ ap (distance_at c p) (sym e); less = rw q near; one = itself e (rw at-d at s.none) }
      now_taken (inr k) =
          let q : lt r.d d ≡ true = rw at-d at k.less in
          record { own = k.own; less = lt_trans r.d d b.d q near; one = first_more t ts (rw k.own at q) k.one }

    -- it is not
    module _ (far : lt d b.d ≡ false) (number : is_nan b.d ≡ false) (at-t : b₁.t ≡ b.t) (at-d : b₁.d ≡ b.d) where
      farther : le b.d d ≡ true
      farther = not_lt_le d b.d (finite_no_nan d good) number far

      as_before : Stays ts b₁ r ⊎ Taken ts b₁ r → Stays (t ∷ ts) b r ⊎ Taken (t ∷ ts) b r
      as_before (inl s) = inl (record { same_t = s.same_t ∙ at-t; same_d = s.same_d ∙ at-d; none = none_more b.d t ts farther (rw at-d at s.none) })
      as_before (inr k) =
          let q : lt r.d b.d ≡ true = rw at-d at k.less in
          inr (record { own = k.own; less = q; one = first_more t ts (rw k.own at (lt_le_trans r.d b.d d q farther)) k.one })

  goes : (l : List Float) (b : Best) → Limited b.d b.limit → is_nan b.d ≡ false → (all_of l b).fine ≡ true → Stays l b (all_of l b) ⊎ Taken l b (all_of l b)
  unfolding through
  goes [] b q n h = inl (record { same_t = refl; same_d = refl; none = λ j k. absurd (omega arith) })
  goes (t ∷ ts) b q n h =
      let good = finite_first t ts b q h in
      let s = step b t q in
      let b₁ = sampled c p b t in
      by_two (lt (distance_at c p t) b.d)
      (λ e.
      let d : b₁.d ≡ distance_at c p t = rw e at s.at-d in
      inr (now_taken t ts b b₁ (all_of ts b₁) good e (rw e at s.at-t) d (goes ts b₁ s.limit (rw d (finite_no_nan (distance_at c p t) good)) h)))
      (λ e.
      let d : b₁.d ≡ b.d = rw e at s.at-d in
      as_before t ts b b₁ (all_of ts b₁) good e n (rw e at s.at-t) d (goes ts b₁ s.limit (rw d n) h))

  -- the first sample is nearer than infinity
  none_stays : (l : List Float) → 0 < length l → (all_of l (unsampled c p)).fine ≡ true → Stays l (unsampled c p) (all_of l (unsampled c p)) → ⊥
  none_stays [] k h s = omega arith
  none_stays (t ∷ ts) k h s = true≢false (sym (s.none 0 k) ∙ lt_not_le _ _ (below_infinity (distance_at c p t) (finite_first t ts (unsampled c p) of_infinity h)))

  least_of_lem : (l : List Float) → 0 < length l → (all_of l (unsampled c p)).fine ≡ true → FirstLeast (distance_at c p) l (all_of l (unsampled c p)).t
  unfolding is_nan
  least_of_lem l k h = elim (goes l (unsampled c p) of_infinity refl h) [ inl s ↦ absurd (none_stays l k h s) | inr q ↦ q.one ]

  some_sample : 0 < length (samples_in c)
  unfolding samples_of
  some_sample = omega (arith, length-append (run 0 (c.n + 3) (λ i l. l ++ pair_samples c.knots 16 i) []) (to c ∷ []))

  -- ---- what the loop leaves, by the definition

  pub fine_is : (best_sample c p).fine ≡ samples_fine c p
  unfolding best_sample samples_fine
  fine_is =
      let l = samples_in c in
      by_two (all_of l (unsampled c p)).fine
      (λ h. h ∙ sym (all (length l) _ (all_finite l (unsampled c p) of_infinity h)))
      (λ h. h ∙ sym (refuted (samples_fine c p) (λ e. true≢false (sym (finite_all l (unsampled c p) of_infinity refl (each (length l) _ e)) ∙ h))))

  pub nearest_is : (best_sample c p).fine ≡ true → (best_sample c p).t ≡ nearest_sample c p
  unfolding best_sample nearest_sample
  nearest_is h =
      let f = least_of_lem (samples_in c) some_sample h in
      f.is ∙ ap (at1 plain (samples_in c)) (first_is (distance_at c p) (by_index (distance_at c p) f))

  -- and the definition's index is the first of the nearest
  pub first_nearest_lem : samples_fine c p ≡ true → IsFirst (distance_at c p) (samples_in c) (first_nearest (distance_at c p) (samples_in c))
  unfolding best_sample
  first_nearest_lem h =
      let f = by_index (distance_at c p) (least_of_lem (samples_in c) some_sample (fine_is ∙ h)) in
      subst (IsFirst (distance_at c p) (samples_in c)) (first_is (distance_at c p) f) f
