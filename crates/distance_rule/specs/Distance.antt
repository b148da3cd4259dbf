-- The distance of two points. docs/RULES.md, "Distance", decides, in place of the original's `hypot`. Whoever asks for a distance asks for it by
-- this name. Sizes are counted in units of 2 ^ -1074, of which every finite double is a whole number (`in_units`).
use Rattle.std.specs.Prelude.{false, ◌&&◌, cond, ℕ, ◌-◌, ◌*◌, ◌^◌, max, Float}
use Rattle.std.specs.Float.{binary64}
use Rattle.std.specs.Float.Ieee.{size, round}
use Rattle.std.specs.Float.Ieee.Scale.{finite}
use Rattle.meaning.specs.Scalar.{plain}
use Rattle.meaning.specs.Root.{in_units}
use Rattle.plane.specs.Vector.{Vector, sub_v, dot_v}

-- the root of the sum of the squares, as it is
abbrev pub root_of_squares : Vector Float → Float
root_of_squares d = plain.root (dot_v plain d d)

-- The place of the leading digit: 2 ^ j is the largest power of two that n reaches. It is 0 for 0.
abbrev pub leading_place : ℕ → ℕ
leading_place n = size n - 1

-- u units over 2 ^ j units, rounded once where no double is that number
abbrev pub scaled_down : ℕ → ℕ → Float
scaled_down j u = round binary64 false u (2 ^ j)

-- r times 2 ^ j units, rounded once
abbrev pub scaled_up : ℕ → Float → Float
scaled_up j r = round binary64 false (in_units r * 2 ^ j) (2 ^ 1074 * 2 ^ 1074)

-- The length of a vector whose coordinates have u and v units. Both are scaled by the one power of two that brings the larger to at least 1 and below 2.
unfoldable pub length_of : ℕ → ℕ → Float
length_of u v = let j = leading_place (max u v) in scaled_up j (root_of_squares (record { x = scaled_down j u; y = scaled_down j v }))

-- a difference that is infinite or a NaN has no units, and its distance is not finite
unfoldable pub distance_of : Vector Float → Vector Float → Float
unfolding length_of
distance_of a b =
    let d = sub_v plain a b in
    cond (finite d.x && finite d.y) (length_of (in_units d.x) (in_units d.y)) (root_of_squares d)
