-- Inner: the span as the code finds it, by a count, for any knots and any n. For knots that do not fall it is `span_of`, which `proofs/Spans.antt`
-- shows; a reader of the rule needs `Span.antt` alone.
use Rattle.std.specs.Prelude.{cond, List, ℕ, zero, suc, ◌+◌, ◌-◌, ltb, leb, length, Float}
use Rattle.std.specs.Float.Ieee.{lt, le}
use Rattle.knots.specs.Rules.{knot}

-- 3, and one more for each of the d knots from knot 4 on that t is not below
unfoldable pub reached : List Float → Float → ℕ → ℕ
reached ks t zero = 3
reached ks t (suc d) = cond (lt t (knot ks (4 + d))) (reached ks t d) (reached ks t d + 1)

-- for an n that has no curve, or a list that has no knot n, the answer is 3
unfoldable pub counted_of : List Float → ℕ → Float → ℕ
unfolding reached
counted_of ks n t =
    cond (ltb n 4) 3
    (cond (ltb 66 n) 3
    (cond (leb (length ks) n) 3
    (cond (le (knot ks n) t) (n - 1) (cond (le t (knot ks 3)) 3 (reached ks t (n - 4))))))
