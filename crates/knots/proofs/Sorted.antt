-- Knots that do not fall are in order from any index to any later one, and equal knots have only equals between them. Assumes nothing.
use mathlib.Core.Path.{◌≡◌}
use mathlib.Core.Bool.{true, false}
use mathlib.Core.List.{List}
use mathlib.Core.Logic.{inl, inr}
use Prim.Native.Nat.{ℕ, zero, suc, ◌+◌, ◌-◌, ◌≤◌, ◌<◌}
use native.Mathlib.Nat.{add-zero, eq-or-lt_of_le}
use native.Mathlib.Omega.{arith}
use lib.ListN.{take}
use lib.Seq.{get_or-take}
use lib.Ieee.{Float, nan, le, eq, is_nan}
use Rattle.meaning.proofs.Order.{le_left, le_right, le_refl, le_trans, le_le_eq, eq_le, eq_sym, eq_trans}
use Rattle.knots.specs.Rules.{knot, NotFalling}

module _ (ks : List Float) (n : ℕ) (up : NotFalling ks n) where
  pub no_nan : (i : ℕ) → i < n + 4 → is_nan (knot ks i) ≡ false
  no_nan i h = elim (eq-or-lt_of_le (at_most h)) [ inl e ↦ rw e (rw last at (le_right _ _ (up (n + 2) (omega arith)))) | inr l ↦ le_left _ _ (up i l) ]
    where
      at_most : i < n + 4 → i ≤ n + 3
      at_most h = omega arith

      last : n + 2 + 1 ≡ n + 3
      last = omega arith

  climb : (d i : ℕ) → i + d < n + 4 → le (knot ks i) (knot ks (i + d)) ≡ true
  climb zero i h = rw (add-zero i) (le_refl _ (no_nan i (omega arith)))
  climb (suc d) i h =
      let e : i + suc d ≡ i + d + 1 = omega arith in
      rw e (le_trans _ _ _ (climb d i (omega arith)) (up (i + d) (omega arith)))

  pub ordered : (i j : ℕ) → i ≤ j → j < n + 4 → le (knot ks i) (knot ks j) ≡ true
  ordered i j h l = let e : i + (j - i) ≡ j = omega arith in rw e at (climb (j - i) i (omega arith))

  pub between : (i l j : ℕ) → i ≤ l → l ≤ j → j < n + 4 → eq (knot ks i) (knot ks j) ≡ true → eq (knot ks i) (knot ks l) ≡ true
  between i l j p q h e =
      le_le_eq _ _ (ordered i l p (omega arith)) (le_trans _ _ _ (ordered l j q h) (eq_le _ _ (eq_sym _ _ e)))

  -- any two between equal knots are equal
  pub among : (i j l m : ℕ) → i ≤ l → l ≤ j → i ≤ m → m ≤ j → j < n + 4 → eq (knot ks i) (knot ks j) ≡ true → eq (knot ks l) (knot ks m) ≡ true
  among i j l m p q r s h e = eq_trans _ _ _ (eq_sym _ _ (between i l j p q h e)) (between i m j r s h e)

-- the knots in use of an array that has room for more
pub front : (ks : List Float) (n : ℕ) → NotFalling (take (n + 4) ks) n → NotFalling ks n
front ks n up i h = rw (get_or-take (n + 4) ks i nan (omega arith), get_or-take (n + 4) ks (i + 1) nan (omega arith)) at (up i h)
