-- Inner: the test that code makes of an index which it takes for the span, for any knots and any n. Among knots that do not fall an index that
-- passes is `span_of`, which `proofs/Tried.antt` shows; only private contracts cite it, and that of the point near a span.
use Rattle.std.specs.Prelude.{Bool, not, ◌&&◌, List, ℕ, ltb, leb, length, Float}
use Rattle.std.specs.Float.Ieee.{le}
use Rattle.knots.specs.Rules.{knot}
use Rattle.span.specs.Span.{holds}

-- i is a span of n control points' knots, which are all there
abbrev pub is_index : List Float → ℕ → ℕ → Bool
is_index ks n i = leb 3 i && (ltb i n && (leb n 66 && ltb n (length ks)))

-- t lies past knot 3, and knot i ≤ t < knot i+1
unfoldable pub within : List Float → ℕ → Float → ℕ → Bool
within ks n t i = is_index ks n i && (not (le t (knot ks 3)) && holds ks t i)
