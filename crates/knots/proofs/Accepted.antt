-- What the rules say of a list that they let through, as facts on its knots, and the other way round. Assumes nothing.
use mathlib.Core.Path.{◌≡◌, sym, ◌∙◌}
use mathlib.Core.Bool.{true, false, not, ◌&&◌}
use mathlib.Core.List.{List}
use Prim.Native.Nat.{ℕ, ◌+◌, ◌-◌, ◌≤◌, ◌<◌, zero-le}
use native.Mathlib.Omega.{arith}
use borrow.Author.Tests.{ltb-false, eqb-true, lt-ltb, not-false}
use lib.ListN.{length}
use lib.Dec.{ltb}
use lib.Ieee.{Float, lt, eq, ne}
use lib.Ieee.Scale.{finite}
use Rattle.refusal.proofs.Rows.{Passed, row_passed, number_of}
use Rattle.knots.specs.declared.Form.TheVariants.{Control}
use Rattle.meaning.proofs.Order.{finite_no_nan, not_lt_le, not_le_lt}
use Rattle.meaning.specs.Search.{some}
use Rattle.knots.specs.Rules.{knot, NotFalling, count, unfit, some_unfit, unlike, no_interval, crowded, knot_rules}
use Rattle.knots.specs.Repeat.{repeats}
use Rattle.meaning.proofs.Tests.{or_left, or_right}
use Rattle.knots.proofs.Refused.{handles_passed, none-unfit}
use Rattle.meaning.proofs.Searching.{none_found}
use Rattle.knots.proofs.Sorted.{no_nan}
use Rattle.knots.proofs.Repeats.{Sound, one_pass}

-- ---- each rule on a list

module _ (ks : List Float) (n : ℕ) (long : length ks ≡ n + 4) where
  module _ (h : some_unfit ks ≡ false) where
    fit : (i : ℕ) → i < n + 4 → unfit ks i ≡ false
    fit i l = none_found (unfit ks) 0 (length ks) h i zero-le (omega arith)

    pub all_finite : (i : ℕ) → i < n + 4 → finite (knot ks i) ≡ true
    all_finite i l = not-false (finite (knot ks i)) (or_left (not (finite (knot ks i))) (ltb 0 i && lt (knot ks i) (knot ks (i - 1))) (fit i l))

    pub all_rise : NotFalling ks n
    all_rise i l =
        let e : i + 1 - 1 ≡ i = omega arith in
        let f : (ltb 0 (i + 1) && lt (knot ks (i + 1)) (knot ks (i + 1 - 1))) ≡ false = or_right (not (finite (knot ks (i + 1)))) _ (fit (i + 1) (omega arith)) in
        not_lt_le _ _ (finite_no_nan _ (all_finite (i + 1) (omega arith))) (finite_no_nan _ (all_finite i (omega arith)))
        (rw (lt-ltb 0 (i + 1) (omega arith), e) at f)

  all_like : (lo hi j : ℕ) → some lo hi (unlike ks j) ≡ false → (i : ℕ) → lo ≤ i → i < hi → eq (knot ks i) (knot ks j) ≡ true
  unfolding ne
  all_like lo hi j h i g l = not-false (eq (knot ks i) (knot ks j)) (none_found (unlike ks j) lo hi h i g l)

  pub sound : some_unfit ks ≡ false → some 0 4 (unlike ks 0) ≡ false → some n (n + 4) (unlike ks (n + 3)) ≡ false → no_interval n ks ≡ false → Sound ks n
  sound h f l a =
      record {
        long = long;
        rises = all_rise h;
        first = λ i g. all_like 0 4 0 f i zero-le g;
        last = λ i g k. all_like n (n + 4) (n + 3) l i g k;
        apart = not_le_lt _ _ (no_nan ks n (all_rise h) (n + 3) (omega arith)) (no_nan ks n (all_rise h) 0 (omega arith)) a;
      }

-- ---- a list that is accepted for n control points

pub record Accepted (ks : List Float) (n : ℕ) : Type 0 where
  pub four : 4 ≤ n
  pub room : n ≤ 66
  pub fine : (i : ℕ) → i < n + 4 → finite (knot ks i) ≡ true
  -- their number, that they do not fall, that the ends are clamped and apart
  pub sound : Sound ks n
  pub few : (i : ℕ) → 4 ≤ i → i < n → count ks (knot ks i) ≤ 3

pub accepted : (ks : List Float) (n : ℕ) → Passed (knot_rules Control n true ks) → Accepted ks n
unfolding knot_rules
accepted ks n h =
    let r2 = row_passed 1 _ _ h in
    let r3 = row_passed 2 _ _ r2.1 in
    let r4 = row_passed 3 _ _ r3.1 in
    let r5 = row_passed 4 _ _ r4.1 in
    let r6 = row_passed 5 _ _ r5.1 in
    let n66 = handles_passed n r2.0 r3.0 r4.0 in
    let r7 = row_passed 6 _ _ r6.1 in
    let r8 = row_passed 7 _ _ r7.1 in
    let r9 = row_passed 8 _ _ r8.1 in
    let r10 = row_passed 9 _ _ r9.1 in
    let long : length ks ≡ n + 4 = eqb-true _ _ (not-false _ r6.0) in
    let starts = some 0 4 (unlike ks 0) in
    let ends = some n (n + 4) (unlike ks (n + 3)) in
    record {
      four = n66.0;
      room = n66.1;
      fine = all_finite ks n long r7.0;
      sound = sound ks n long r7.0 (or_left starts ends r8.0) (or_right starts ends r8.0) r9.0;
      few = λ i g l. ltb-false _ _ (none_found (crowded ks) 4 n r10.0 i g l);
    }

-- ---- and back, with one pass for the repeats

pub accepts : (ks : List Float) (n : ℕ) → 4 ≤ n → n ≤ 66 → length ks ≡ n + 4 → some_unfit ks ≡ false → some 0 4 (unlike ks 0) ≡ false
    → some n (n + 4) (unlike ks (n + 3)) ≡ false → no_interval n ks ≡ false → some 1 n (repeats ks) ≡ false → Passed (knot_rules Control n true ks)
accepts ks n f r long h a b i c =
    number_of (none-unfit n (f, r) ks long h ∙ rw (a, b, i, sym (one_pass ks n (sound ks n long h a b i) f) ∙ c))
