-- Finite knots that do not fall, with clamped ends, each from knot 3 to knot n - 1 below the next: the rules let them through. Assumes nothing.
use mathlib.Core.Path.{◌≡◌, sym, ap, ◌∙◌}
use mathlib.Core.Bool.{true, false, not}
use mathlib.Core.List.{List}
use Prim.Native.Nat.{ℕ, zero, suc, ◌+◌, ◌-◌, ◌≤◌, ◌<◌, max}
use native.Mathlib.Omega.{arith}
use borrow.Author.Tests.{lt-ltb}
use lib.ListN.{length}
use lib.Ieee.{Float, lt, eq, ne}
use lib.Ieee.Scale.{finite}
use Rattle.refusal.proofs.Rows.{Passed}
use Rattle.meaning.proofs.Order as Order
use Rattle.meaning.proofs.Tests.{by_two, no}
use Rattle.meaning.proofs.Searching.{found_none}
use Rattle.knots.specs.declared.Form.TheVariants.{Control}
use Rattle.knots.specs.Rules.{knot, NotFalling, unfit, some_unfit, unlike, knot_rules}
use Rattle.knots.specs.Repeat.{repeats}
use Rattle.knots.proofs.Sorted.{ordered}
use Rattle.knots.proofs.Accepted.{accepts}

-- what is below another does not equal it
below_differs : (x y : Float) → lt x y ≡ true → eq x y ≡ false
below_differs x y h = by_two (eq x y) (λ e. no (sym (Order.lt_not_le x y h) ∙ Order.eq_le y x (Order.eq_sym x y e))) (λ e. e)

module _ (ks : List Float) (n : ℕ) (four : 4 ≤ n) (room : n ≤ 66) (long : length ks ≡ n + 4)
    (fine : (i : ℕ) → i < n + 4 → finite (knot ks i) ≡ true) (up : NotFalling ks n)
    (front : (i : ℕ) → i < 4 → eq (knot ks i) (knot ks 0) ≡ true) (back : (i : ℕ) → n ≤ i → i < n + 4 → eq (knot ks i) (knot ks (n + 3)) ≡ true)
    (rise : (i : ℕ) → 3 ≤ i → i < n → lt (knot ks i) (knot ks (i + 1)) ≡ true) where
  all_fit : some_unfit ks ≡ false
  all_fit = found_none (unfit ks) 0 (length ks) (λ i g l. fit i (omega arith))
    where
      fit : (i : ℕ) → i < n + 4 → unfit ks i ≡ false
      fit zero l = rw (fine zero l)
      fit (suc i) l =
          let e : suc i - 1 ≡ i = omega arith in
          let f : suc i ≡ i + 1 = omega arith in
          rw (fine (suc i) l, e, f, Order.le_not_lt _ _ (up i (omega arith)), lt-ltb 0 (i + 1) (omega arith))

  -- three knots on there is one of those that are below the next
  apart : (j : ℕ) → 1 ≤ j → j < n → lt (knot ks j) (knot ks (j + 3)) ≡ true
  apart j a b =
      let i = max j 3 in
      Order.le_lt_trans _ _ _ (ordered ks n up j i (omega arith) (omega arith))
      (Order.lt_le_trans _ _ _ (rise i (omega arith) (omega arith)) (ordered ks n up (i + 1) (j + 3) (omega arith) (omega arith)))

  ends_apart : lt (knot ks 0) (knot ks (n + 3)) ≡ true
  ends_apart =
      Order.le_lt_trans _ _ _ (ordered ks n up 0 1 (omega arith) (omega arith))
      (Order.lt_le_trans _ _ _ (apart 1 (omega arith) (omega arith)) (ordered ks n up 4 (n + 3) (omega arith) (omega arith)))

  pub rising_passes : Passed (knot_rules Control n true ks)
  unfolding ne
  rising_passes =
      accepts ks n four room long all_fit
      (found_none (unlike ks 0) 0 4 (λ i g l. ap not (front i l)))
      (found_none (unlike ks (n + 3)) n (n + 4) (λ i g l. ap not (back i g l)))
      (Order.lt_not_le _ _ ends_apart)
      (found_none (repeats ks) 1 n (λ j g l. below_differs _ _ (apart j g l)))
