-- The span: among knots that do not fall there is one i, and only one, with knot i ≤ t < knot i+1, which the count finds and `span_of` is. Only the
-- first n + 1 knots are read. Assumes nothing.
use mathlib.Core.Path.{◌≡◌, refl, sym, ap, ◌∙◌}
use mathlib.Core.Bool.{Bool, true, false, not, cond, true≢false}
use mathlib.Core.List.{List}
use Prim.Native.Nat.{ℕ, zero, suc, ◌+◌, ◌-◌, ◌≤◌, ◌<◌}
use native.Mathlib.Nat.{le_refl}
use native.Mathlib.Omega.{arith}
use borrow.Author.Tests.{ltb-true, ltb-false, le-ltb, lt-leb}
use lib.Dec.{ltb}
use lib.ListN.{length, take, drop, get_or, get_or-eq_default}
use lib.Seq.{get_or-drop}
use Rattle.std.specs.List.{count_by}
use Rattle.std.proofs.lemmas.List.Sums.{count_by_more_no, count_by_more_yes}
use lib.Ieee.{Float, nan, inf, fin, lt, le, is_nan}
use Rattle.meaning.proofs.Order.{nan_lt, nan_le, le_nan, lt_le, lt_le_trans, le_trans, lt_not_le, not_lt_le, not_le_lt, lt_left}
use Rattle.meaning.specs.Search.{seek}
use Rattle.knots.specs.Rules.{knot, NotFalling}
use Rattle.span.specs.Span.{holds, span_of}
use Rattle.span.specs.Counting.{reached, counted_of}
use Rattle.meaning.proofs.Tests.{by_two, and_left, and_right, no}
use Rattle.meaning.proofs.Searching.{seek_is}
use Rattle.knots.proofs.Sorted.{no_nan, ordered, front}
use Rattle.knots.proofs.Accepted.{Accepted}

-- ---- the count

-- of the d knots from knot 4 on, t is not below those up to the count's, and below the others
pub record Counted (ks : List Float) (t : Float) (d k : ℕ) : Type 0 where
  pub low : 3 ≤ k
  pub high : k ≤ 3 + d
  pub under : (j : ℕ) → k < j → j < 4 + d → lt t (knot ks j) ≡ true
  pub over : (j : ℕ) → 4 ≤ j → j ≤ k → lt t (knot ks j) ≡ false

pub reached_bounds : (ks : List Float) (t : Float) (d : ℕ) → (3 ≤ reached ks t d) × (reached ks t d ≤ 3 + d)
unfolding reached
reached_bounds ks t zero = (le_refl 3, le_refl 3)
reached_bounds ks t (suc d) =
    let r = reached_bounds ks t d in
    by_two (lt t (knot ks (4 + d))) (λ h. rw h (omega (arith, r.0), omega (arith, r.1))) (λ h. rw h (omega (arith, r.0), omega (arith, r.1)))

-- counted in the list itself
pub reached_count : (ks : List Float) (t : Float) (d : ℕ) → d ≤ length (drop 4 ks) → 3 + count_by (λ x. not (lt t x)) (take d (drop 4 ks)) ≡ reached ks t d
unfolding reached
reached_count ks t zero h = omega arith
reached_count ks t (suc d) h =
    let l = drop 4 ks in
    let p : Float → Bool = λ x. not (lt t x) in
    let so_far = reached_count ks t d (omega arith) in
    let here : p (get_or l d nan) ≡ not (lt t (knot ks (4 + d))) = ap p (get_or-drop 4 ks d nan) in
    let more : d + 1 ≡ suc d = omega arith in
    by_two (lt t (knot ks (4 + d)))
    (λ e. rw e (ap (λ (k : ℕ). 3 + k) (rw more at (count_by_more_no p l d nan (omega arith) (here ∙ ap not e))) ∙ so_far))
    (λ e.
    let one = rw more at (count_by_more_yes p l d nan (omega arith) (here ∙ ap not e)) in
    rw e (omega (arith, one, so_far)))

-- ---- the one i

pub record Inside (ks : List Float) (n : ℕ) (t : Float) (i : ℕ) : Type 0 where
  pub low : 3 ≤ i
  pub high : i < n
  pub at : le (knot ks i) t ≡ true
  pub under : lt t (knot ks (i + 1)) ≡ true

module _ (ks : List Float) (n : ℕ) (t : Float) where
  module _ (up : NotFalling ks n) where
    not_after : (i j : ℕ) → Inside ks n t i → Inside ks n t j → i < j → ⊥
    not_after i j a b h =
        true≢false
        (sym (le_trans _ _ _ (ordered ks n up (i + 1) j (omega arith) (omega (arith, b.high))) b.at) ∙ lt_not_le _ _ a.under)

    pub only_one : (i j : ℕ) → Inside ks n t i → Inside ks n t j → i ≡ j
    only_one i j a b =
        by_two (ltb i j) (λ h. absurd (not_after i j a b (ltb-true i j h)))
        (λ h. by_two (ltb j i) (λ g. absurd (not_after j i b a (ltb-true j i g))) (λ g. omega (arith, ltb-false i j h, ltb-false j i g)))

    -- a knot that t is not below comes after no knot that it is below
    step : (d k : ℕ) → 4 + d < n → Counted ks t d k → (b : Bool) → lt t (knot ks (4 + d)) ≡ b → Counted ks t (suc d) (cond b k (k + 1))
    step d k h c true q = record {
      low = c.low;
      high = omega (arith, c.high);
      under = λ j g l. by_two (ltb j (4 + d)) (λ z. c.under j g (ltb-true j (4 + d) z))
          (λ z. let e : j ≡ 4 + d = omega (arith, ltb-false j (4 + d) z) in rw e q);
      over = c.over;
    }
    step d k h c false q =
        let whole : k ≡ 3 + d = all in record {
          low = omega (arith, c.low);
          high = omega arith;
          under = λ j g l. absurd (omega arith);
          over = λ j g l. by_two (ltb k j)
              (λ z. let e : j ≡ 4 + d = omega (arith, ltb-true k j z) in rw e q)
              (λ z. c.over j g (ltb-false k j z));
        }
      where
        all : k ≡ 3 + d
        all = by_two (ltb k (3 + d))
            (λ z.
            let l = ltb-true k (3 + d) z in
            let below = lt_le_trans _ _ _ (c.under (3 + d) l (omega arith)) (ordered ks n up (3 + d) (4 + d) (omega arith) (omega arith)) in
            no (sym q ∙ below))
            (λ z. omega (arith, c.high, ltb-false k (3 + d) z))

    counts : (d : ℕ) → 4 + d ≤ n → Counted ks t d (reached ks t d)
    unfolding reached
    counts zero h = record { low = le_refl 3; high = le_refl 3; under = λ j g l. absurd (omega arith); over = λ j g l. absurd (omega arith) }
    counts (suc d) h = step d (reached ks t d) (omega arith) (counts d (omega arith)) (lt t (knot ks (4 + d))) refl

    found_inside : 4 ≤ n → lt (knot ks 3) t ≡ true → lt t (knot ks n) ≡ true → Inside ks n t (reached ks t (n - 4))
    found_inside f a b =
        let i = reached ks t (n - 4) in
        let c = counts (n - 4) (omega arith) in
        let high : i < n = omega (arith, c.high) in
        let k = no_nan ks n up i (omega arith) in
        record {
          low = c.low;
          high = high;
          at = by_two (ltb 3 i) (λ z. not_lt_le _ _ (lt_left _ _ b) k (c.over i (ltb-true 3 i z) (le_refl i)))
              (λ z. let e : i ≡ 3 = omega (arith, c.low, ltb-false 3 i z) in rw e (lt_le _ _ a));
          under = by_two (ltb (i + 1) n) (λ z. c.under (i + 1) (omega arith) (omega (arith, ltb-true (i + 1) n z)))
              (λ z. let e : i + 1 ≡ n = omega (arith, ltb-false (i + 1) n z) in rw e b);
        }

    sought : (i : ℕ) → Inside ks n t i → i ≡ seek 3 (n - 1) (holds ks t)
    sought i a =
        seek_is (holds ks t) 3 (n - 1) i
        (record {
          low = a.low;
          high = omega (arith, a.high);
          before = λ j g l. by_two (holds ks t j) (λ h. absurd (not_after j i (inside j g (omega (arith, a.high)) h) a l)) (λ h. h);
          found = λ h. rw a.at a.under;
        })
      where
        inside : (j : ℕ) → 3 ≤ j → j < n → holds ks t j ≡ true → Inside ks n t j
        inside j g l h = record { low = g; high = l; at = and_left _ (lt t (knot ks (j + 1))) h; under = and_right (le (knot ks j) t) _ h }

    -- there is such an i, and the span is it
    pub span_inside : 4 ≤ n → lt (knot ks 3) t ≡ true → lt t (knot ks n) ≡ true → Inside ks n t (span_of ks n t)
    unfolding span_of
    span_inside f a b = let i = found_inside f a b in rw (lt_not_le _ _ b, lt_not_le _ _ a, ← sought (reached ks t (n - 4)) i) i

-- ---- a NaN

pub span_nan : (ks : List Float) (n : ℕ) → 4 ≤ n → span_of ks n nan ≡ n - 1
unfolding span_of
span_nan ks n f = rw (le_nan (knot ks n), nan_le (knot ks 3)) (sym (nowhere ks n f))
  where
    nowhere : (ks : List Float) (n : ℕ) → 4 ≤ n → n - 1 ≡ seek 3 (n - 1) (holds ks nan)
    nowhere ks n f =
        seek_is (holds ks nan) 3 (n - 1) (n - 1)
        (record { low = omega arith; high = le_refl (n - 1); before = λ j g l. rw (le_nan (knot ks j)); found = λ h. absurd (omega arith) })

is_nan_lem : (t : Float) → is_nan t ≡ true → t ≡ nan
unfolding is_nan
is_nan_lem nan h = refl
is_nan_lem (inf s) h = no h
is_nan_lem (fin s m e) h = no h

-- below no knot, it counts all of them
reached_nan : (ks : List Float) (d : ℕ) → reached ks nan d ≡ 3 + d
unfolding reached
reached_nan ks zero = refl
reached_nan ks (suc d) = rw (nan_lt (knot ks (4 + d))) (let e = reached_nan ks d in omega arith)

-- ---- the code's answer

-- knots that do not fall are all there
pub reaches : (ks : List Float) (n : ℕ) → NotFalling ks n → n < length ks
reaches ks n up = by_two (ltb n (length ks)) (λ h. ltb-true n (length ks) h) (λ h. absurd (missing (ltb-false n (length ks) h)))
  where
    missing : length ks ≤ n → ⊥
    missing h =
        let e : knot ks n ≡ nan = get_or-eq_default ks nan h in
        true≢false (sym (up n (omega arith)) ∙ ap (λ (x : Float). le x (knot ks (n + 1))) e ∙ nan_le (knot ks (n + 1)))

module _ (ks : List Float) (n : ℕ) (t : Float) (f : 4 ≤ n) (r : n ≤ 66) where
  module _ (l : n < length ks) where
    pub opened : counted_of ks n t ≡ cond (le (knot ks n) t) (n - 1) (cond (le t (knot ks 3)) 3 (reached ks t (n - 4)))
    unfolding counted_of
    opened = rw (le-ltb n 4 f, le-ltb 66 n r, lt-leb (length ks) n l)

    a_nan : is_nan t ≡ true → counted_of ks n t ≡ span_of ks n t
    a_nan h =
        let e = is_nan_lem t h in
        opened ∙ rw (e, le_nan (knot ks n), nan_le (knot ks 3), span_nan ks n f, reached_nan ks (n - 4)) (omega arith)

  -- for knots that do not fall and any t, a NaN too
  pub counted-span : NotFalling ks n → counted_of ks n t ≡ span_of ks n t
  unfolding span_of
  counted-span up =
      let l = reaches ks n up in
      by_two (is_nan t) (a_nan l) (λ m. opened l ∙ a_number m (le (knot ks n) t) (le t (knot ks 3)) refl refl)
    where
      a_number : is_nan t ≡ false → (a b : Bool) → le (knot ks n) t ≡ a → le t (knot ks 3) ≡ b → cond a (n - 1) (cond b 3 (reached ks t (n - 4))) ≡ span_of ks n t
      a_number m true b p q = rw p
      a_number m false true p q = rw (p, q)
      a_number m false false p q =
          let lower = not_le_lt _ _ m (no_nan ks n up 3 (omega arith)) q in
          let upper = not_le_lt _ _ (no_nan ks n up n (omega arith)) m p in
          rw (p, q) (sought ks n t up (reached ks t (n - 4)) (found_inside ks n t up f lower upper))

-- ---- two lists with the same first n + 1 knots

module _ (ks ls : List Float) (n : ℕ) (t : Float) (same : (i : ℕ) → i ≤ n → knot ks i ≡ knot ls i) where
  same_reached : (d : ℕ) → 4 + d ≤ n + 1 → reached ks t d ≡ reached ls t d
  unfolding reached
  same_reached zero h = refl
  same_reached (suc d) h =
      let e = same (4 + d) (omega arith) in
      let r = same_reached d (omega arith) in
      λ i. cond (lt t (e i)) (r i) (r i + 1)

  pub same_counted : 4 ≤ n → n ≤ 66 → n < length ks → n < length ls → counted_of ks n t ≡ counted_of ls n t
  same_counted f r a b =
      let last = same n (le_refl n) in
      let third = same 3 (omega arith) in
      let all = same_reached (n - 4) (omega arith) in
      opened ks n t f r a
      ∙ (λ i. cond (le (last i) t) (n - 1) (cond (le t (third i)) 3 (all i)))
      ∙ sym (opened ls n t f r b)

-- an array that holds accepted knots in front
pub accepted_span : (u : List Float) (n : ℕ) (t : Float) → Accepted (take (n + 4) u) n → counted_of u n t ≡ span_of u n t
accepted_span u n t a = counted-span u n t a.four a.room (front u n a.sound.rises)
