-- The uniform knots pass the rules, for each number of control points that a curve can have. Knot j is c / (n - 3), rounded, for a c that does not fall
-- as j rises; and (c + 1) / s stays above c / s when both are rounded, since two multiples of 1 / 128 lie between them. Assumes nothing.
use mathlib.Core.Path.{◌≡◌, refl, sym, ap, ◌∙◌, subst}
use mathlib.Core.Bool.{true, false, ◌&&◌, cond}
use mathlib.Core.List.{List}
use Prim.Native.Nat.{ℕ, zero, suc, ◌+◌, ◌-◌, ◌*◌, ◌/◌, ◌^◌, ◌≤◌, ◌<◌, min}
use native.Mathlib.Nat.{le_refl, zero-add, lt_irrefl, lt_of_lt_of_le, mul_assoc, mul_comm, mul_right_comm, mul_left_comm, div-le_self, mul-one, mul-pos, zero-mul, add-mul, mul-lt-mul_of_pos_right, mul-le-mul_right, lt_of_mul-lt-mul_right, div-add-mod', mod-lt}
use native.Mathlib.Omega.{arith}
use borrow.Author.Tests.{lt-ltb, le-leb, ltb-true, ltb-false}
use lib.Dec.{eqb-suc-zero, ltb, leb, leb→le}
use lib.Pow.{pow_pos}
use lib.ListN.{take, length, length-take}
use lib.Seq.{get_or-take}
use lib.Ieee.{Float, nan, inf, fin, binary64, up, down, round, lt, le, eq, div, of_int, of_bits}
use lib.Ieee.Fits.{down_pos}
use lib.Ieee.Exact.{HasValue, round_exact}
use lib.Ieee.Back.{round_whole}
use lib.Ieee.Bits.{is_true}
use lib.Ieee.Order.{round_mono}
use lib.Ieee.Scale.{finite, round_same}
use Rattle.meaning.specs.Scalar.{zero64, one64}
use Rattle.refusal.proofs.Rows.{Passed}
use Rattle.knots.specs.declared.Form.TheVariants.{Control}
use Rattle.meaning.proofs.Order.{le_left, eq_refl, le_lt_trans, lt_le_trans}
use Rattle.knots.specs.Rules.{knot, knot_rules}
use Rattle.uniform.specs.Uniform.{quotient, uniform_at, uniform_of}
use Rattle.meaning.proofs.Tests.{by_two, no}
use Rattle.meaning.proofs.Filling.{length-listed, at_listed}
use Rattle.knots.proofs.Passing.{rising_passes}

-- ---- values by their fractions

-- a quotient is the fraction, rounded
ratio : (x y : Float) (a b : ℕ) → 0 < b → HasValue x false a 1 → HasValue y false b 1 → div binary64 x y ≡ round binary64 false a b
unfolding div
ratio nan y a b B h g = absurd h
ratio (inf s) y a b B h g = absurd h
ratio (fin s m e) nan a b B h g = absurd g
ratio (fin s m e) (inf t) a b B h g = absurd g
ratio (fin s m e) (fin t zero d) a b B h g =
    absurd (lt_irrefl 0 (subst (λ (k : ℕ). 0 < k) (sym g.1 ∙ mul-one (zero * up d) ∙ zero-mul (up d)) (mul-pos B (down_pos d))))
ratio (fin s m e) (fin t (suc n) d) a b B h g =
    let p : m * up e ≡ a * down e = sym (mul-one (m * up e)) ∙ h.1 in
    let q : suc n * up d ≡ b * down d = sym (mul-one (suc n * up d)) ∙ g.1 in
    rw (eqb-suc-zero n, h.0, g.0, p, q)
    (round_same binary64 false (a * down e * down d) (b * down d * down e) a b (mul-pos (mul-pos B (down_pos d)) (down_pos e)) B (simp (mul_assoc, mul_comm, mul_left_comm)))

-- one fraction below another over the same denominator
below_by : (x y : Float) (a b c : ℕ) → 0 < c → HasValue x false a c → HasValue y false b c → a < b → lt x y ≡ true
unfolding lt
below_by nan y a b c C h g l = absurd h
below_by (inf s) y a b c C h g l = absurd h
below_by (fin s m e) nan a b c C h g l = absurd g
below_by (fin s m e) (inf t) a b c C h g l = absurd g
below_by (fin s m e) (fin t n d) a b c C h g l =
    let p : m * up e * down d * c ≡ a * (down e * down d) = mul_right_comm (m * up e) (down d) c ∙ ap (λ (z : ℕ). z * down d) h.1 ∙ mul_assoc a (down e) (down d) in
    let q : n * up d * down e * c ≡ b * (down e * down d) =
    mul_right_comm (n * up d) (down e) c ∙ ap (λ (z : ℕ). z * down e) g.1 ∙ mul_assoc b (down d) (down e) ∙ ap (λ (z : ℕ). b * z) (mul_comm (down d) (down e)) in
    rw (h.0, g.0)
    (lt-ltb (m * up e * down d) (n * up d * down e) (lt_of_mul-lt-mul_right c (rw (p, q) (mul-lt-mul_of_pos_right l (mul-pos (down_pos e) (down_pos d))))))

-- a multiple of 1 / 128
multiple : (k : ℕ) → k < 2 ^ 53 → HasValue (round binary64 false k 128) false k 128
multiple k h =
    round_exact binary64 false k 128 k 1067 (omega arith) h
    (lt_of_lt_of_le (mul-lt-mul_of_pos_right h (pow_pos 1067)) (leb→le (2 ^ 53 * 2 ^ 1067) (2 ^ (1074 + 1024)) tt))
    (sym (mul_assoc k (2 ^ 1067) 128))

-- ---- c / s, rounded
module _ (s : ℕ) (S : 0 < s) (r : s ≤ 63) where
  abbrev part : ℕ → Float
  part c = round binary64 false c s

  part_le : (a b : ℕ) → a ≤ b → le (part a) (part b) ≡ true
  part_le a b h = is_true _ (round_mono binary64 a s b s S S (mul-le-mul_right s h))

  -- the least multiple of 1 / 128 that is not below c / s, and the next one, which is not above (c + 1) / s
  part_next : (c : ℕ) → c ≤ 63 → lt (part c) (part (c + 1)) ≡ true
  part_next c h =
      let k = (c * 128 + (s - 1)) / s in
      let e = div-add-mod' (c * 128 + (s - 1)) s in
      let m = mod-lt (c * 128 + (s - 1)) S in
      let few : k < 2 ^ 53 - 1 = omega (arith, div-le_self (c * 128 + (s - 1)) s) in
      le_lt_trans _ _ _ (is_true _ (round_mono binary64 c s k 128 S (omega arith) (omega arith)))
      (lt_le_trans _ _ _ (below_by _ _ k (k + 1) 128 (omega arith) (multiple k (omega arith)) (multiple (k + 1) (omega arith)) (omega arith))
      (is_true _ (round_mono binary64 (k + 1) 128 (c + 1) s (omega arith) S (omega (arith, add-mul k 1 s)))))

  part_lt : (a b : ℕ) → a < b → a ≤ 63 → lt (part a) (part b) ≡ true
  part_lt a b h k = lt_le_trans _ _ _ (part_next a k) (part_le (a + 1) b (omega arith))

  first_is : part 0 ≡ zero64
  unfolding round of_bits
  first_is = round_same binary64 false 0 s 0 1 S (omega arith) (omega (arith, zero-mul s))

  last_is : part s ≡ one64
  unfolding round of_bits
  last_is = round_same binary64 false s s 1 1 S (omega arith) (omega arith)

  quotient_is : (c : ℕ) → c ≤ 63 → quotient c s ≡ part c
  unfolding of_int
  quotient_is c h = ratio _ _ c s S (round_whole binary64 false c (omega arith)) (round_whole binary64 false s (omega arith))

-- a value from 0 to 1
fine : (x : Float) → le zero64 x ≡ true → le x one64 ≡ true → finite x ≡ true
unfolding le lt eq of_bits
fine nan h g = no h
fine (inf true) h g = no h
fine (inf false) h g = no g
fine (fin s m e) h g = refl

-- ---- the knots of n control points
module _ (n : ℕ) (f : 4 ≤ n) (r : n ≤ 66) where
  S : 0 < n - 3
  S = omega arith

  R : n - 3 ≤ 63
  R = omega arith

  -- c / (n - 3) for knot j: c is 0 at the first four and n - 3 at the last four
  abbrev step : ℕ → ℕ
  step j = min (j - 3) (n - 3)

  abbrev value : ℕ → Float
  value j = part (n - 3) S R (step j)

  at_is : (j : ℕ) → j < n + 4 → uniform_at n j ≡ value j
  unfolding uniform_at
  at_is j h =
      by_two (ltb j 4)
      (λ a. let e : 0 ≡ step j = omega (arith, ltb-true j 4 a) in rw a (sym (first_is (n - 3) S R) ∙ ap (part (n - 3) S R) e))
      (λ a. by_two (ltb j n)
      (λ b. let e : j - 3 ≡ step j = omega (arith, ltb-true j n b) in rw (a, b) (quotient_is (n - 3) S R (j - 3) (omega (arith, ltb-true j n b)) ∙ ap (part (n - 3) S R) e))
      (λ b. let e : n - 3 ≡ step j = omega (arith, ltb-false j n b) in rw (a, b, lt-ltb j (n + 4) h) (sym (last_is (n - 3) S R) ∙ ap (part (n - 3) S R) e)))

  knots : List Float
  knots = take (n + 4) (uniform_of n)

  knot_is : (j : ℕ) → j < n + 4 → knot knots j ≡ value j
  unfolding knots uniform_of
  knot_is j h =
      get_or-take (n + 4) _ j nan h
      ∙ at_listed 0 70 j (λ (i : ℕ). cond (leb 4 n && leb n 66) (uniform_at n i) zero64) nan (omega arith)
      ∙ rw (le-leb 4 n f, le-leb n 66 r, zero-add j) (at_is j h)

  long : length knots ≡ n + 4
  unfolding knots uniform_of
  long = length-take (n + 4) _ ∙ rw (length-listed 0 70) (omega arith)

  -- ---- from one knot to another
  rises : (i j : ℕ) → i ≤ j → j < n + 4 → le (knot knots i) (knot knots j) ≡ true
  rises i j h l = rw (knot_is i (omega arith), knot_is j l) (part_le (n - 3) S R (step i) (step j) (omega arith))

  apart : (i j : ℕ) → j < n + 4 → step i < step j → i < n + 4 → lt (knot knots i) (knot knots j) ≡ true
  apart i j l h k = rw (knot_is i k, knot_is j l) (part_lt (n - 3) S R (step i) (step j) h (omega arith))

  alike : (i j : ℕ) → i < n + 4 → j < n + 4 → step i ≡ step j → eq (knot knots i) (knot knots j) ≡ true
  alike i j h l e =
      let q : knot knots i ≡ knot knots j = knot_is i h ∙ ap (part (n - 3) S R) e ∙ sym (knot_is j l) in
      rw q (eq_refl _ (le_left _ _ (rises j j (le_refl j) l)))

  first-knot : knot knots 0 ≡ zero64
  first-knot = let e : step 0 ≡ 0 = omega arith in knot_is 0 (omega arith) ∙ ap (part (n - 3) S R) e ∙ first_is (n - 3) S R

  last-knot : knot knots (n + 3) ≡ one64
  last-knot = let e : step (n + 3) ≡ n - 3 = omega arith in knot_is (n + 3) (omega arith) ∙ ap (part (n - 3) S R) e ∙ last_is (n - 3) S R

  pub uniform_passes : Passed (knot_rules Control n true (take (n + 4) (uniform_of n)))
  unfolding knots
  uniform_passes =
      rising_passes knots n f r long
      (λ i l. fine (knot knots i) (rw first-knot at (rises 0 i (omega arith) l)) (rw last-knot at (rises i (n + 3) (omega arith) (omega arith))))
      (λ i l. rises i (i + 1) (omega arith) (omega arith))
      (λ i l. alike i 0 (omega arith) (omega arith) (omega arith))
      (λ i g l. alike i (n + 3) l (omega arith) (omega arith))
      (λ i g l. apart i (i + 1) (omega arith) (omega arith) (omega arith))
