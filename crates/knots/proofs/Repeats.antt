-- Among finite knots that do not fall, with clamped ends that are apart, an interior knot equals more than 3 knots of the list where some
-- knot from 1 on, below n, equals the third after it: so one pass tells what the rule counts for each knot. Assumes nothing.
use mathlib.Core.Path.{◌≡◌, sym, ◌∙◌}
use mathlib.Core.Bool.{Bool, true, false, cond, true≢false}
use mathlib.Core.List.{List, [], ◌∷◌}
use mathlib.Core.Logic.{inl, inr}
use Prim.Native.Nat.{ℕ, zero, suc, ◌+◌, ◌≤◌, ◌<◌, zero-le}
use native.Mathlib.Nat.{eq-or-lt_of_le, le_refl, le_trans}
use native.Mathlib.Omega.{arith}
use borrow.Author.Tests.{ltb-true, lt-ltb, leb-true, leb-false}
use lib.Dec.{leb}
use lib.ListN.{length, drop, get_or-eq_default}
use lib.Seq.{get_or-drop}
use lib.Ieee.{Float, nan, lt, eq}
use Rattle.meaning.proofs.Order.{nan_eq, eq_le, eq_sym, eq_trans, lt_not_le, eq_refl}
use Rattle.meaning.specs.Search.{seek, some}
use Rattle.knots.specs.Rules.{knot, NotFalling, count, crowded, some_crowded}
use Rattle.knots.specs.Repeat.{repeats}
use Rattle.meaning.proofs.Tests.{no, by_two}
use Rattle.meaning.proofs.Searching.{First, seek-first, some-found, found_some}
use Rattle.knots.proofs.Sorted.{no_nan, among}

-- ---- counting

-- the first r knots equal x
at_least_lem : (ks : List Float) (r : ℕ) (x : Float) → ((i : ℕ) → i < r → eq (knot ks i) x ≡ true) → r ≤ count ks x
unfolding count
at_least_lem ks zero x h = zero-le
at_least_lem [] (suc r) x h = no (sym (nan_eq x) ∙ h 0 (omega arith))
at_least_lem (k ∷ ks) (suc r) x h = rw (h 0 (omega arith)) (more (count ks x) r (at_least_lem ks r x (λ i l. h (suc i) (omega arith))))
  where
    more : (c r : ℕ) → r ≤ c → suc r ≤ 1 + c
    more c r h = omega arith

count_drop : (j : ℕ) (ks : List Float) (x : Float) → count (drop j ks) x ≤ count ks x
unfolding count
count_drop zero ks x = omega arith
count_drop (suc j) [] x = omega arith
count_drop (suc j) (k ∷ ks) x = more (cond (eq k x) 1 0) (count_drop j ks x)
  where
    more : (a : ℕ) → count (drop j ks) x ≤ count ks x → count (drop j ks) x ≤ a + count ks x
    more a h = omega arith

-- no knot from r on equals x
at_most : (ks : List Float) (r : ℕ) (x : Float) → ((i : ℕ) → r ≤ i → eq (knot ks i) x ≡ false) → count ks x ≤ r
unfolding count
at_most [] r x h = zero-le
at_most (k ∷ ks) zero x h = rw (h 0 (omega arith)) (more (count ks x) (at_most ks zero x (λ i l. h (suc i) (omega arith))))
  where
    more : (c : ℕ) → c ≤ 0 → 0 + c ≤ 0
    more c h = omega arith
at_most (k ∷ ks) (suc r) x h = by (eq k x) (at_most ks r x (λ i l. h (suc i) (omega arith)))
  where
    by : (b : Bool) → count ks x ≤ r → cond b 1 0 + count ks x ≤ suc r
    by true l = omega arith
    by false l = omega arith

-- nor does one below a
window : (ks : List Float) (a r : ℕ) (x : Float) → ((i : ℕ) → i < a → eq (knot ks i) x ≡ false) → ((i : ℕ) → a + r ≤ i → eq (knot ks i) x ≡ false)
    → count ks x ≤ r
unfolding count
window ks zero r x b h = at_most ks r x (λ i l. h i (omega arith))
window [] (suc a) r x b h = zero-le
window (k ∷ ks) (suc a) r x b h =
    rw (b 0 (omega arith)) (more (count ks x) (window ks a r x (λ i l. b (suc i) (omega arith)) (λ i l. h (suc i) (omega arith))))
  where
    more : (c : ℕ) → c ≤ r → 0 + c ≤ r
    more c h = omega arith

-- ---- knots that the rules 7 to 9 let through

pub record Sound (ks : List Float) (n : ℕ) : Type 0 where
  pub long : length ks ≡ n + 4
  pub rises : NotFalling ks n
  pub first : (i : ℕ) → i < 4 → eq (knot ks i) (knot ks 0) ≡ true
  pub last : (i : ℕ) → n ≤ i → i < n + 4 → eq (knot ks i) (knot ks (n + 3)) ≡ true
  pub apart : lt (knot ks 0) (knot ks (n + 3)) ≡ true

none-past : (ks : List Float) (i : ℕ) (x : Float) → length ks ≤ i → eq (knot ks i) x ≡ false
none-past ks i x h = rw (get_or-eq_default ks nan h) (nan_eq x)

module _ (ks : List Float) (n : ℕ) (s : Sound ks n) where
  -- a is the first knot that equals knot i, which equals more than three
  module _ (i a : ℕ) (h : 4 ≤ i) (l : i < n) (f : First (λ j. eq (knot ks j) (knot ks i)) 0 (i + 1) a) (c : 3 < count ks (knot ks i)) where
    reached : a < i + 1
    reached = elim (eq-or-lt_of_le f.high) [ inl e ↦ no (sym (f.before i zero-le (omega arith)) ∙ eq_refl _ (no_nan ks n s.rises i (omega arith))) | inr g ↦ g ]

    equal : eq (knot ks a) (knot ks i) ≡ true
    equal = f.found reached

    -- were the third knot after it larger, there would be no more than three
    third : eq (knot ks (a + 3)) (knot ks i) ≡ true
    third = by_two (eq (knot ks (a + 3)) (knot ks i)) (λ e. e) (λ e. absurd (clash (window ks a 3 (knot ks i) (λ j g. f.before j zero-le g) (past e))))
      where
        clash : count ks (knot ks i) ≤ 3 → ⊥
        clash g = omega arith

        past : eq (knot ks (a + 3)) (knot ks i) ≡ false → (j : ℕ) → a + 3 ≤ j → eq (knot ks j) (knot ks i) ≡ false
        past e j g =
            by_two (eq (knot ks j) (knot ks i))
            (λ q. by_two (leb (n + 4) j)
            (λ w. none-past ks j (knot ks i) (omega (arith, s.long, leb-true (n + 4) j w)))
            (λ w. no (sym e ∙ eq_trans _ _ _ (among ks n s.rises a j (a + 3) a (omega arith) g (le_refl a) (omega arith) (leb-false (n + 4) j w) (eq_trans _ _ _ equal (eq_sym _ _ q))) equal)))
            (λ q. q)

    to_repeat : some 1 n (repeats ks) ≡ true
    to_repeat = elim (eq-or-lt_of_le {n = 0} {m = a} zero-le) [
      | inl z ↦ found_some (repeats ks) 1 n 1 (le_refl 1) (omega arith) (among ks n s.rises 0 i 1 4 zero-le (omega arith) zero-le h (omega arith) (rw z equal))
      | inr g ↦ found_some (repeats ks) 1 n a g (omega (arith, reached)) (eq_trans _ _ _ equal (eq_sym _ _ third))
    ]

  -- four in a row that equal one of them
  four_equal : (i j : ℕ) → j ≤ i → i ≤ j + 3 → j + 3 < n + 4 → repeats ks j ≡ true → crowded ks i ≡ true
  four_equal i j p q r e =
      lt-ltb 3 _ (le_trans (at_least_lem (drop j ks) 4 (knot ks i) equal) (count_drop j ks (knot ks i)))
    where
      equal : (l : ℕ) → l < 4 → eq (knot (drop j ks) l) (knot ks i) ≡ true
      equal l h = rw (get_or-drop j ks l nan) (among ks n s.rises j (j + 3) (j + l) i (omega arith) (omega arith) p q r e)

  -- of which one is inside, unless the ends touch
  to-crowded : 4 ≤ n → (j : ℕ) → 1 ≤ j → j < n → repeats ks j ≡ true → some_crowded n ks ≡ true
  to-crowded f j h l e = by_two (leb 4 j) late early
    where
      late : leb 4 j ≡ true → some_crowded n ks ≡ true
      late w = let g = leb-true 4 j w in found_some (crowded ks) 4 n j g l (four_equal j j (le_refl j) (omega arith) (omega arith) e)

      touching : j < 4 → n ≡ 4 → ⊥
      touching g z =
          let a = eq_sym _ _ (s.first j g) in
          let b = s.last (j + 3) (omega arith) (omega arith) in
          let t = eq_trans _ _ _ a (eq_trans _ _ _ e b) in
          true≢false (sym (eq_le _ _ (eq_sym _ _ t)) ∙ lt_not_le _ _ s.apart)

      early : leb 4 j ≡ false → some_crowded n ks ≡ true
      early w =
          let g = leb-false 4 j w in
          elim (eq-or-lt_of_le f) [
            | inl z ↦ absurd (touching g (sym z))
            | inr m ↦ found_some (crowded ks) 4 n 4 (le_refl 4) m (four_equal 4 j (omega arith) (omega arith) (omega arith) e)
          ]

  pub one_pass : 4 ≤ n → some 1 n (repeats ks) ≡ some_crowded n ks
  one_pass f =
      by_two (some_crowded n ks)
      (λ e. let w = some-found (crowded ks) 4 n e in
      let i = seek 4 n (crowded ks) in
      to_repeat i (seek 0 (i + 1) (λ j. eq (knot ks j) (knot ks i))) w.0 w.1.0 (seek-first (λ j. eq (knot ks j) (knot ks i)) 0 (i + 1) zero-le) (ltb-true _ _ w.1.1) ∙ sym e)
      (λ e. by_two (some 1 n (repeats ks))
      (λ q. let w = some-found (repeats ks) 1 n q in q ∙ sym (to-crowded f (seek 1 n (repeats ks)) w.0 w.1.0 w.1.1))
      (λ q. q ∙ sym e))
