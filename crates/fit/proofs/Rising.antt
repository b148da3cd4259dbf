-- The parameters of a fit, where they are finite: none is above the next, and one that is not below the next is the same. So its knots do not
-- fall, and the count finds the rules' span among them. Assumes nothing.
use mathlib.Core.Path.{◌≡◌, refl, sym, ap, ◌∙◌, subst}
use mathlib.Core.Bool.{Bool, true, false, not}
use mathlib.Core.List.{List}
use mathlib.Core.Logic.{◌⊎◌, inl, inr}
use Prim.Native.Nat.{ℕ, zero, suc, ◌+◌, ◌-◌, ◌≤◌, ◌<◌, zero-le}
use native.Mathlib.Nat.{add-zero}
use native.Mathlib.Numerals.{add-one}
use native.Mathlib.Omega.{arith}
use borrow.Author.Tests.{lt-ltb, le-ltb, ltb-true, ltb-false, not-false}
use lib.Dec.{T, ltb}
use lib.Ieee.{Float, nan, binary64, add, div, lt, le, is_nan, fits, of_bits}
use lib.Ieee.Bits.{of_bits-fits}
use lib.Ieee.Fits.{add-fits, div-fits}
use lib.Ieee.Scale.{finite}
use Rattle.meaning.specs.Scalar.{plain, zero64, one64}
use Rattle.meaning.proofs.Order as Order
use Rattle.meaning.specs.Search.{seek, some}
use Rattle.knots.specs.Rules.{knot, NotFalling}
use Rattle.span.specs.Span.{span_of}
use Rattle.span.specs.Counting.{counted_of}
use Rattle.meaning.proofs.Tests.{by_two, no}
use Rattle.meaning.proofs.Searching.{some-found, none_found}
use Rattle.meaning.proofs.Order.{finite_no_nan}
use Rattle.span.proofs.Spans.{counted-span}
use Rattle.outcome.specs.Outcome.{some_wild}
use Rattle.outcome.proofs.Wild.{each_finite}
use Rattle.fit.specs.Parameters.{step_at, sum_of, parameter_at, knot_at, knots_by, fit_parameter, fit_knots}
use Rattle.fit.proofs.Plus.{plus, root-plus, add_plus, div_plus, zero_least, sum_not_below, finite_over, over_no_nan, over-in_order, over_at_most_one, equal_same}
use Rattle.fit.proofs.Sums.{sum_none, sum_next, parameter_inner, parameter_last}
use Rattle.meaning.proofs.Filling.{nth_listed}

-- every one of n parameters is below the next
abbrev pub Rising : (ℕ → Float) → ℕ → Type 0
Rising u n = (k : ℕ) → suc k < n → lt (u k) (u (suc k)) ≡ true

-- one of them is the next, as data
pub record Repeat (u : ℕ → Float) (n : ℕ) : Type 0 where
  pub k : ℕ
  pub low : suc k < n
  pub same : u k ≡ u (suc k)

zero_plus : T (plus zero64)
unfolding of_bits
zero_plus = tt

one_plus : T (plus one64)
unfolding of_bits
one_plus = tt

-- ---- steps without a minus sign

module _ (st : ℕ → Float) (P : (i : ℕ) → T (plus (st i))) where
  abbrev sum : ℕ → Float
  sum k = sum_of plain st k

  sum_suc : (k : ℕ) → sum (suc k) ≡ add binary64 (sum k) (st k)
  sum_suc k = ap sum (sym (add-one k)) ∙ sym (sum_next plain st k refl refl)

  sum_plus : (k : ℕ) → T (plus (sum k))
  sum_plus zero = subst (λ (z : Float). T (plus z)) (sum_none plain st) zero_plus
  sum_plus (suc k) = rw (sum_suc k) (add_plus (sum k) (st k) (sum_plus k) (P k))

  sum_fits : (k : ℕ) → T (fits binary64 (sum k))
  sum_fits zero = subst (λ (z : Float). T (fits binary64 z)) (sum_none plain st) (of_bits-fits binary64 0)
  sum_fits (suc k) = rw (sum_suc k) (add-fits binary64 (sum k) (st k))

  -- one step more is not below, and so any number of steps
  sum_climbs : (k : ℕ) → is_nan (sum (suc k)) ≡ false → le (sum k) (sum (suc k)) ≡ true
  sum_climbs k n = rw (sum_suc k) (sum_not_below (sum k) (st k) (sum_plus k) (P k) (sum_fits k) (rw (sum_suc k) at n))

  sums_climb : (d k : ℕ) → is_nan (sum (k + d)) ≡ false → le (sum k) (sum (k + d)) ≡ true
  sums_climb zero k n = rw (add-zero k) (Order.le_refl (sum k) (rw (add-zero k) at n))
  sums_climb (suc d) k n =
      let e : k + suc d ≡ suc (k + d) = omega arith in
      let l = sum_climbs (k + d) (rw e at n) in
      rw e (Order.le_trans (sum k) (sum (k + d)) (sum (suc (k + d))) (sums_climb d k (Order.le_left _ _ l)) l)

  -- ---- the parameters of n points

  module _ (n : ℕ) (two : 2 ≤ n) where
    abbrev u : ℕ → Float
    u k = parameter_at plain st n k

    abbrev total : Float
    total = sum (n - 1)

    first : u 0 ≡ zero64
    unfolding parameter_at
    first = refl

    last : u (n - 1) ≡ one64
    last = sym (parameter_last plain st n two)

    inner : (k : ℕ) → 1 ≤ k → k < n - 1 → u k ≡ div binary64 (sum k) total
    inner k a b = sym (parameter_inner plain st n k a b)

    -- what holds of the first, of the last and of every quotient
    each : (Q : Float → Type 0) → Q zero64 → Q one64 → ((k : ℕ) → Q (div binary64 (sum k) total)) → (k : ℕ) → k < n → Q (u k)
    each Q z o q zero l = subst Q (sym first) z
    each Q z o q (suc k) l =
        by_two (ltb (suc k) (n - 1))
        (λ b. subst Q (sym (inner (suc k) (omega arith) (ltb-true (suc k) (n - 1) b))) (q (suc k)))
        (λ b. let e : suc k ≡ n - 1 = omega (arith, ltb-false (suc k) (n - 1) b) in subst Q (sym (ap u e ∙ last)) o)

    parameter_plus : (k : ℕ) → k < n → T (plus (u k))
    parameter_plus = each (λ (z : Float). T (plus z)) zero_plus one_plus (λ k. div_plus (sum k) total (sum_plus k) (sum_plus (n - 1)))

    parameter_fits : (k : ℕ) → k < n → T (fits binary64 (u k))
    parameter_fits =
        each (λ (z : Float). T (fits binary64 z)) (of_bits-fits binary64 0) (of_bits-fits binary64 0x3ff0_0000_0000_0000) (λ k. div-fits binary64 (sum k) total)

    module _ (fine : (k : ℕ) → k < n → finite (u k) ≡ true) where
      fine_inner : (k : ℕ) → 1 ≤ k → k < n - 1 → finite (div binary64 (sum k) total) ≡ true
      fine_inner k a b = ap finite (sym (inner k a b)) ∙ fine k (omega arith)

      -- two quotients, and a quotient and the last parameter
      inner_climbs : (k : ℕ) → 1 ≤ k → suc k < n - 1 → le (u k) (u (suc k)) ≡ true
      inner_climbs k a b =
          let f = fine_inner k a (omega arith) in
          let g = fine_inner (suc k) (omega arith) b in
          rw (inner k a (omega arith), inner (suc k) (omega arith) b)
          (over-in_order (sum k) (sum (suc k)) total (sum_plus k) (sum_plus (suc k)) (sum_plus (n - 1)) f g
          (sum_climbs k (finite_no_nan _ (finite_over _ total g))))

      last_climbs : (k : ℕ) → 1 ≤ k → suc k ≡ n - 1 → le (u k) (u (suc k)) ≡ true
      last_climbs k a e =
          let f = fine_inner k a (omega arith) in
          let g : k + (n - 1 - k) ≡ n - 1 = omega arith in
          rw (inner k a (omega arith), e, last)
          (over_at_most_one (sum k) total (sum_plus k) (sum_plus (n - 1)) f (rw g at (sums_climb (n - 1 - k) k (rw g (over_no_nan _ _ f)))))

      pub parameters_climb : (k : ℕ) → suc k < n → le (u k) (u (suc k)) ≡ true
      parameters_climb zero l = rw first (zero_least (u 1) (parameter_plus 1 l) (finite_no_nan _ (fine 1 l)))
      parameters_climb (suc k) l =
          by_two (ltb (suc (suc k)) (n - 1))
          (λ b. inner_climbs (suc k) (omega arith) (ltb-true _ _ b))
          (λ b. last_climbs (suc k) (omega arith) (omega (arith, ltb-false (suc (suc k)) (n - 1) b)))

      -- each is below the next or is the next, as data
      next : (k : ℕ) → suc k < n → (lt (u k) (u (suc k)) ≡ true) ⊎ (u k ≡ u (suc k))
      next k l =
          let f : k < n = omega arith in
          by_two (lt (u k) (u (suc k))) inl
          (λ b. inr (equal_same _ _ (parameter_fits k f) (parameter_fits (suc k) l) (parameter_plus k f) (parameter_plus (suc k) l)
          (Order.le_le_eq _ _ (parameters_climb k l) (Order.not_lt_le _ _ (finite_no_nan _ (fine k f)) (finite_no_nan _ (fine (suc k) l)) b))))

      pub rise_or_repeat : Rising u n ⊎ Repeat u n
      rise_or_repeat =
          let flat : ℕ → Bool = λ k. not (lt (u k) (u (suc k))) in
          by_two (some 0 (n - 1) flat)
          (λ b.
          let w = some-found flat 0 (n - 1) b in
          let k = seek 0 (n - 1) flat in
          let l : suc k < n = omega (arith, w.1.0) in
          inr (record { k = k; low = l; same = elim (next k l) [ inl h ↦ no (sym (ap not h) ∙ w.1.1) | inr h ↦ h ] }))
          (λ b. inl (λ k l. not-false _ (none_found flat 0 (n - 1) b k zero-le (omega arith))))

    -- ---- the knots

    abbrev us : List Float
    us = knots_by plain u n

    knot_is : (j : ℕ) → j < 70 → knot us j ≡ knot_at plain u n j
    unfolding knots_by
    knot_is j l = nth_listed 70 j (knot_at plain u n) nan l

    module _ (room : n ≤ 64) where
      pub knot_front : (j : ℕ) → j < 4 → knot us j ≡ zero64
      unfolding knot_at
      knot_front j l = knot_is j (omega arith) ∙ rw (lt-ltb j 4 l)

      pub knot_back : (j : ℕ) → n + 2 ≤ j → j < n + 6 → knot us j ≡ one64
      unfolding knot_at
      knot_back j a b = knot_is j (omega arith) ∙ rw (le-ltb j 4 (omega arith), le-ltb j (n + 2) a, lt-ltb j (n + 6) b)

      -- from the last 0 to the first 1 they are the parameters
      pub knot_parameter : (k : ℕ) → k < n → knot us (k + 3) ≡ u k
      unfolding knot_at
      knot_parameter zero l = knot_front 3 (omega arith) ∙ sym first
      knot_parameter (suc k) l =
          by_two (ltb (suc k) (n - 1))
          (λ b.
          let h : suc k < n - 1 = ltb-true (suc k) (n - 1) b in
          let e : suc k + 3 - 3 ≡ suc k = omega arith in
          knot_is (suc k + 3) (omega arith) ∙ rw (le-ltb (suc k + 3) 4 (omega arith), lt-ltb (suc k + 3) (n + 2) (omega arith), e))
          (λ b.
          let e : suc k ≡ n - 1 = omega (arith, ltb-false (suc k) (n - 1) b) in
          knot_back (suc k + 3) (omega arith) (omega arith) ∙ sym (ap u e ∙ last))

      module _ (tame : some_wild us 70 ≡ false) where
        pub knots-fine : (j : ℕ) → j < 70 → finite (knot us j) ≡ true
        knots-fine = each_finite us 70 tame

        pub parameters-fine : (k : ℕ) → k < n → finite (u k) ≡ true
        parameters-fine k l = ap finite (sym (knot_parameter k l)) ∙ knots-fine (k + 3) (omega arith)

        pub knots_not_falling : NotFalling us (n + 2)
        knots_not_falling i l =
            by_two (ltb i 3)
            (λ b. let g : i < 3 = ltb-true i 3 b in rw (knot_front i (omega arith), knot_front (i + 1) (omega arith)) zeros)
            (λ b.
            let g : 3 ≤ i = ltb-false i 3 b in
            by_two (ltb i (n + 2))
            (λ c.
            let h : i < n + 2 = ltb-true i (n + 2) c in
            let e : i ≡ i - 3 + 3 = omega arith in
            let f : i + 1 ≡ suc (i - 3) + 3 = omega arith in
            rw (ap (knot us) e ∙ knot_parameter (i - 3) (omega arith), ap (knot us) f ∙ knot_parameter (suc (i - 3)) (omega arith))
            (parameters_climb parameters-fine (i - 3) (omega arith)))
            (λ c. let h : n + 2 ≤ i = ltb-false i (n + 2) c in rw (knot_back i h (omega arith), knot_back (i + 1) (omega arith) (omega arith)) ones))
          where
            zeros : le zero64 zero64 ≡ true
            zeros = unfold le of_bits in refl

            ones : le one64 one64 ≡ true
            ones = unfold le of_bits in refl

-- ---- the steps of a fit are roots

pub step_plus : (q : List Float) (i : ℕ) → T (plus (step_at plain q i))
unfolding step_at
step_plus q i = root-plus _

module _ (q : List Float) (n : ℕ) (two : 2 ≤ n) (room : n ≤ 64) (tame : some_wild (fit_knots plain q n) 70 ≡ false) where
  pub fit_knots_sorted : NotFalling (fit_knots plain q n) (n + 2)
  fit_knots_sorted = knots_not_falling (step_at plain q) (step_plus q) n two room tame

  pub fit_rise_or_repeat : Rising (fit_parameter plain q n) n ⊎ Repeat (fit_parameter plain q n) n
  fit_rise_or_repeat = rise_or_repeat (step_at plain q) (step_plus q) n two (parameters-fine (step_at plain q) (step_plus q) n two room tame)

  pub fit_span : (t : Float) → counted_of (fit_knots plain q n) (n + 2) t ≡ span_of (fit_knots plain q n) (n + 2) t
  fit_span t = counted-span (fit_knots plain q n) (n + 2) t (omega arith) (omega arith) fit_knots_sorted
