-- The uniform knots of n control points. docs/RULES.md, "Uniform knots", decides: four 0, then i/(n-3) for i = 1 to n-4, then four 1; the
-- entries past those are +0.0, and so are all of them where the record has no room for n or n is below 4.
use Rattle.std.specs.Prelude.{◌&&◌, cond, List, ℕ, ◌+◌, ◌-◌, ltb, leb, pos, Float}
use Rattle.std.specs.Float.{binary64}
use Rattle.std.specs.Float.Ieee.{div, of_int}
use Rattle.meaning.specs.Scalar.{zero64, one64}
use Rattle.meaning.specs.Search.{listed}

-- i/s
abbrev pub quotient : ℕ → ℕ → Float
quotient i s = div binary64 (of_int binary64 (pos i)) (of_int binary64 (pos s))

-- knot j of n control points
unfoldable pub uniform_at : ℕ → ℕ → Float
unfolding div of_int
uniform_at n j = cond (ltb j 4) zero64 (cond (ltb j n) (quotient (j - 3) (n - 3)) (cond (ltb j (n + 4)) one64 zero64))

unfoldable pub uniform_of : ℕ → List Float
unfolding uniform_at listed
uniform_of n = listed 0 70 (λ j. cond (leb 4 n && leb n 66) (uniform_at n j) zero64)
