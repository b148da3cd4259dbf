-- The span of a parameter. docs/RULES.md, "Span", decides: at or above knot n it is n-1; else at or below knot 3 it is 3; else the i with
-- knot i ≤ t < knot i+1. Where there is none, which among knots that do not fall only a NaN shows, it is n-1, as in the original.
use Rattle.std.specs.Prelude.{◌≡◌, Bool, ◌&&◌, cond, List, ℕ, ◌+◌, ◌-◌, ◌≤◌, Float}
use Rattle.std.specs.Float.Ieee.{lt, le}
use Rattle.meaning.specs.Search.{seek}
use Rattle.knots.specs.Rules.{knot, NotFalling}

-- knot i ≤ t < knot i+1
abbrev pub holds : List Float → Float → ℕ → Bool
holds ks t i = le (knot ks i) t && lt t (knot ks (i + 1))

unfoldable pub span_of : List Float → ℕ → Float → ℕ
span_of ks n t = cond (le (knot ks n) t) (n - 1) (cond (le t (knot ks 3)) 3 (seek 3 (n - 1) (holds ks t)))

-- i is the span of t, where there is a curve's room of knots and these do not fall
abbrev pub IsSpan : List Float → ℕ → Float → ℕ → Type 0
IsSpan ks n t i = 4 ≤ n → n ≤ 66 → NotFalling ks n → i ≡ span_of ks n t
