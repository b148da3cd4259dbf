-- The span of a parameter in the domain of an accepted curve holds the parameter and is not empty, and the six knots around it are in order.
-- Assumes nothing.
use mathlib.Core.Path.{◌≡◌, sym, ap, ◌∙◌}
use mathlib.Core.Bool.{true, false}
use mathlib.Core.List.{List}
use mathlib.Core.Logic.{◌⊎◌, inl, inr}
use Prim.Native.Nat.{ℕ, ◌+◌, ◌-◌, ◌*◌, ◌^◌, ◌≤◌, ◌<◌}
use native.Mathlib.Nat.{le_refl}
use native.Mathlib.Omega.{arith}
use borrow.Author.Tests.{le-ltb, leb-true, leb-false}
use lib.Dec.{T, leb}
use lib.ListN.{length, take, get_or-eq_default}
use lib.Seq.{get_or-take}
use lib.Ieee.{Float, nan, binary64, lt, le, eq, is_nan, fits}
use lib.Ieee.Fits.{nan-fits}
use Rattle.meaning.specs.Scalar.{plain}
use Rattle.meaning.specs.Table.{at1}
use Rattle.meaning.proofs.Order as order
use Rattle.knots.specs.Rules.{knot, NotFalling, count, crowded, some_crowded}
use Rattle.knots.specs.Repeat.{repeats}
use Rattle.span.specs.Span.{span_of}
use Rattle.meaning.proofs.Tests.{no, by_two}
use Rattle.meaning.proofs.Searching.{none_found, found_none}
use Rattle.knots.proofs.Sorted.{no_nan, ordered, front}
use Rattle.knots.proofs.Repeats.{one_pass}
use Rattle.knots.proofs.Accepted.{Accepted}
use Rattle.span.proofs.Spans.{Inside, span_inside}
use Rattle.shape.specs.Shape.{Shape}
use Rattle.hull.specs.Units.{U}
use Rattle.hull.specs.Asked.{span_at}
use Rattle.hull.proofs.Given.{AllDoubles, Within}
use Rattle.hull.proofs.Operations.{Whole, one_part, parts}
use Rattle.hull.proofs.Reading.{AtMost, whole, lt_under, le_at_most}
use Rattle.hull.proofs.Around.{Knot, Six}

-- past its end a list of doubles reads a NaN, which is one
pub each : (l : List Float) → AllDoubles l → (i : ℕ) → T (fits binary64 (at1 plain l i))
each l d i =
    by_two (leb (length l) i)
    (λ h. rw (get_or-eq_default l nan (leb-true (length l) i h)) (nan-fits binary64))
    (λ h. d i (leb-false (length l) i h))

-- t lies on span i, which is not empty
pub record Holds (ks : List Float) (n : ℕ) (t : Float) (i : ℕ) : Type 0 where
  pub low : 3 ≤ i
  pub high : i < n
  pub from : le (knot ks i) t ≡ true
  pub to : le t (knot ks (i + 1)) ≡ true
  pub rise : lt (knot ks i) (knot ks (i + 1)) ≡ true

module _ (ks : List Float) (n : ℕ) (a : Accepted (take (n + 4) ks) n) where
  in_front : (i : ℕ) → i < n + 4 → knot (take (n + 4) ks) i ≡ knot ks i
  in_front i h = get_or-take (n + 4) ks i nan h

  pub up : NotFalling ks n
  up = front ks n a.sound.rises

  -- ---- no inner knot is there more than three times, so no knot from 1 on equals the third after it

  none-crowded : ((i : ℕ) → 4 ≤ i → i < n → count (take (n + 4) ks) (knot (take (n + 4) ks) i) ≤ 3) → some_crowded n (take (n + 4) ks) ≡ false
  none-crowded few = found_none (crowded (take (n + 4) ks)) 4 n (λ i g l. le-ltb 3 _ (few i g l))

  no_repeat : (j : ℕ) → 1 ≤ j → j < n → eq (knot ks j) (knot ks (j + 3)) ≡ false
  no_repeat j g h =
      rw (in_front j (omega arith), in_front (j + 3) (omega arith)) at
      (none_found (repeats (take (n + 4) ks)) 1 n (one_pass (take (n + 4) ks) n a.sound a.four ∙ none-crowded a.few) j g h)

  -- so knot i is below the next where it equals knot j and the next knot j + 3
  rises : (j i : ℕ) → 1 ≤ j → j < n → i < n + 3 → eq (knot ks j) (knot ks i) ≡ true → eq (knot ks (i + 1)) (knot ks (j + 3)) ≡ true
      → lt (knot ks i) (knot ks (i + 1)) ≡ true
  rises j i g h l p q =
      by_two (le (knot ks (i + 1)) (knot ks i))
      (λ e. no (sym (no_repeat j g h) ∙ order.eq_trans _ _ _ p (order.eq_trans _ _ _ (order.le_le_eq _ _ (up i l) e) q)))
      (λ e. order.not_le_lt _ _ (no_nan ks n up (i + 1) (omega arith)) (no_nan ks n up i (omega arith)) e)

  same : (i : ℕ) → i < n + 4 → eq (knot ks i) (knot ks i) ≡ true
  same i h = order.eq_refl _ (no_nan ks n up i h)

  starts : (i : ℕ) → i < 4 → eq (knot ks i) (knot ks 0) ≡ true
  starts i h = rw (in_front i (omega (arith, a.four)), in_front 0 (omega arith)) at (a.sound.first i h)

  ends : (i : ℕ) → n ≤ i → i < n + 4 → eq (knot ks i) (knot ks (n + 3)) ≡ true
  ends i g h = rw (in_front i h, in_front (n + 3) (omega arith)) at (a.sound.last i g h)

  -- the first span and the last are not empty
  first_rises : lt (knot ks 3) (knot ks 4) ≡ true
  first_rises =
      rises 1 3 (omega arith) (omega (arith, a.four)) (omega (arith, a.four))
      (order.eq_trans _ _ _ (starts 1 (omega arith)) (order.eq_sym _ _ (starts 3 (omega arith)))) (same 4 (omega (arith, a.four)))

  last_rises : lt (knot ks (n - 1)) (knot ks (n - 1 + 1)) ≡ true
  last_rises =
      let f = a.four in
      rises (n - 1) (n - 1) (omega arith) (omega arith) (omega arith) (same (n - 1) (omega arith))
      (order.eq_trans _ _ _ (ends (n - 1 + 1) (omega arith) (omega arith)) (order.eq_sym _ _ (ends (n - 1 + 3) (omega arith) (omega arith))))

  -- ---- the span of t

  module _ (t : Float) (number : is_nan t ≡ false) (from : lt t (knot ks 0) ≡ false) (to : lt (knot ks (n + 3)) t ≡ false) where
    from_first : le (knot ks 0) t ≡ true
    from_first = order.not_lt_le _ _ number (no_nan ks n up 0 (omega arith)) from

    to_last : le t (knot ks (n + 3)) ≡ true
    to_last = order.not_lt_le _ _ (no_nan ks n up (n + 3) (omega arith)) number to

    at_end : le (knot ks n) t ≡ true → Holds ks n t (n - 1)
    at_end h =
        let f = a.four in
        let e : n - 1 + 1 ≡ n = omega arith in
        record {
          low = omega arith;
          high = omega arith;
          from = order.le_trans _ _ _ (ordered ks n up (n - 1) n (omega arith) (omega arith)) h;
          to = rw e (order.le_trans _ _ _ to_last (order.eq_le _ _ (order.eq_sym _ _ (ends n (le_refl n) (omega arith)))));
          rise = last_rises;
        }

    at_start : le t (knot ks 3) ≡ true → Holds ks n t 3
    at_start h =
        let f = a.four in
        record {
          low = omega arith;
          high = omega arith;
          from = order.le_trans _ _ _ (order.eq_le _ _ (starts 3 (omega arith))) from_first;
          to = order.le_trans _ _ _ h (up 3 (omega arith));
          rise = first_rises;
        }

    between : (i : ℕ) → Inside ks n t i → Holds ks n t i
    between i h =
        record { low = h.low; high = h.high; from = h.at; to = order.lt_le _ _ h.under; rise = order.le_lt_trans _ _ _ h.at h.under }

    pub span-holds : Holds ks n t (span_of ks n t)
    unfolding span_of
    span-holds =
        by_two (le (knot ks n) t) (λ p. rw p (at_end p))
        (λ p. by_two (le t (knot ks 3)) (λ q. rw (p, q) (at_start q))
        (λ q. between _ (span_inside ks n t up a.four
        (order.not_le_lt _ _ number (no_nan ks n up 3 (omega arith)) q)
        (order.not_le_lt _ _ (no_nan ks n up n (omega arith)) number p))))

-- what lies between two values has no larger size than both
between_size : (ap an tp tn bp bn s : ℕ) → (tp ≡ 0) ⊎ (tn ≡ 0) → ap + tn ≤ tp + an → tp + bn ≤ bp + tn → ap + an ≤ s → bp + bn ≤ s → tp + tn ≤ s
between_size ap an tp tn bp bn s (inl z) h k l m = omega arith
between_size ap an tp tn bp bn s (inr z) h k l m = omega arith

module _ (c : Shape Float) (t : Float) (a : Accepted (take (c.n + 4) c.knots) c.n) (d : Within c t) where
  pub holds : Holds c.knots c.n t (span_at c t)
  holds = span-holds c.knots c.n a t (order.finite_no_nan t d.number) d.from d.to

  knot-at : (i : ℕ) → i < c.n + 4 → Knot (knot c.knots i)
  knot-at i h =
      record {
        whole = whole _ (rw (in_front c.knots c.n a i h) at (a.fine i h)) (each c.knots d.doubles i);
        size = rw (parts (knot c.knots i)) at (d.sizes i h);
      }

  whole-t : Whole t
  whole-t = whole t d.number d.double

  rise_at : (i j : ℕ) → i ≤ j → j < c.n + 4 → AtMost (knot c.knots i) (knot c.knots j)
  rise_at i j h l =
      le_at_most _ _ (knot-at i (omega arith)).whole (knot-at j l).whole (ordered c.knots c.n (up c.knots c.n a) i j h l)

  pub six : Six (knot c.knots (span_at c t + 1 - 3)) (knot c.knots (span_at c t + 1 - 2)) (knot c.knots (span_at c t + 1 - 1)) t
      (knot c.knots (span_at c t + 1)) (knot c.knots (span_at c t + 2)) (knot c.knots (span_at c t + 3))
  six =
      let h = holds in
      let i = span_at c t in
      let e : i + 1 - 1 ≡ i = omega arith in
      let ka = knot-at i (omega arith) in
      let kb = knot-at (i + 1) (omega arith) in
      let below = le_at_most _ _ ka.whole whole-t h.from in
      let above = le_at_most _ _ whole-t kb.whole h.to in
      record {
        ka3 = knot-at (i + 1 - 3) (omega arith);
        ka2 = knot-at (i + 1 - 2) (omega arith);
        ka1 = knot-at (i + 1 - 1) (omega arith);
        kt = record { whole = whole-t; size = between_size _ _ _ _ _ _ (U * 2 ^ 20) (one_part t) below above ka.size kb.size };
        kb1 = kb;
        kb2 = knot-at (i + 2) (omega arith);
        kb3 = knot-at (i + 3) (omega arith);
        a32 = rise_at (i + 1 - 3) (i + 1 - 2) (omega arith) (omega arith);
        a21 = rise_at (i + 1 - 2) (i + 1 - 1) (omega arith) (omega arith);
        a1t = rw e below;
        tb1 = above;
        b12 = rise_at (i + 1) (i + 2) (omega arith) (omega arith);
        b23 = rise_at (i + 2) (i + 3) (omega arith) (omega arith);
        a1b1 = rw e (lt_under _ _ ka.whole kb.whole h.rise);
      }
