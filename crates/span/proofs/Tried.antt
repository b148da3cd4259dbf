-- An index that passes the test of `within` is the span, among knots that do not fall; and t lies in the domain. Assumes nothing.
use mathlib.Core.Path.{◌≡◌}
use mathlib.Core.Bool.{true, false, not, ◌&&◌}
use mathlib.Core.List.{List}
use Prim.Native.Nat.{ℕ, ◌+◌, ◌≤◌, ◌<◌}
use native.Mathlib.Omega.{arith}
use borrow.Author.Tests.{ltb-true, leb-true, not-true}
use lib.Dec.{ltb, leb}
use lib.Ieee.{Float, lt, le, is_nan}
use Rattle.meaning.proofs.Order.{lt_le, lt_left, lt_le_trans, le_trans, le_not_lt, not_le_lt}
use Rattle.meaning.proofs.Tests.{and_left, and_right}
use Rattle.knots.specs.Rules.{knot, NotFalling}
use Rattle.knots.proofs.Sorted.{no_nan, ordered}
use Rattle.span.specs.Span.{holds, span_of}
use Rattle.span.specs.Within.{is_index, within}
use Rattle.span.proofs.Spans.{Inside, only_one, span_inside}

module _ (ks : List Float) (n : ℕ) (up : NotFalling ks n) (t : Float) (i : ℕ) (h : within ks n t i ≡ true) where
  index : is_index ks n i ≡ true
  unfolding within
  index = and_left (is_index ks n i) _ h

  passed : not (le t (knot ks 3)) && holds ks t i ≡ true
  unfolding within
  passed = and_right (is_index ks n i) _ h

  inside : Inside ks n t i
  inside =
      let at = and_right (not (le t (knot ks 3))) (holds ks t i) passed in
      record {
        low = leb-true 3 i (and_left (leb 3 i) _ index);
        high = ltb-true i n (and_left (ltb i n) _ (and_right (leb 3 i) _ index));
        at = and_left (le (knot ks i) t) _ at;
        under = and_right (le (knot ks i) t) _ at;
      }

  a_number : is_nan t ≡ false
  a_number = lt_left _ _ inside.under

  past_third : lt (knot ks 3) t ≡ true
  past_third =
      let low = inside.low in
      let high = inside.high in
      not_le_lt _ _ a_number (no_nan ks n up 3 (omega arith)) (not-true _ (and_left (not (le t (knot ks 3))) (holds ks t i) passed))

  -- below every knot from i + 1 on
  under : (j : ℕ) → i + 1 ≤ j → j < n + 4 → lt t (knot ks j) ≡ true
  under j g l = lt_le_trans _ _ _ inside.under (ordered ks n up (i + 1) j g l)

  pub tried_span : span_of ks n t ≡ i
  tried_span =
      let low = inside.low in
      let high = inside.high in
      only_one ks n t up _ _ (span_inside ks n t up (omega arith) past_third (under n (omega arith) (omega arith))) inside

  pub not_before : lt t (knot ks 0) ≡ false
  not_before = le_not_lt _ _ (le_trans _ _ _ (ordered ks n up 0 3 (omega arith) (omega arith)) (lt_le _ _ past_third))

  pub not_past : lt (knot ks (n + 3)) t ≡ false
  not_past = let high = inside.high in le_not_lt _ _ (lt_le _ _ (under (n + 3) (omega arith) (omega arith)))
