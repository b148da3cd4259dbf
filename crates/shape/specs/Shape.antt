-- The shape of a curve: its control points and knots. docs/RULES.md, "Record", decides.
use Rattle.std.specs.Prelude.{cond, List, ℕ, ◌+◌, ◌*◌, ◌/◌, ltb, length, replicate, Float}
use Rattle.meaning.specs.Scalar.{plain, zero64}
use Rattle.meaning.specs.Table.{at1}
use Rattle.meaning.specs.Search.{listed}
use Rattle.buffer.specs.Pasted.{pasted}

-- n control points with their n + 4 knots; what stands past those is not read
pub record Shape (A : Type 0) : Type 0 where
  pub n : ℕ
  pub xs : List A
  pub ys : List A
  pub knots : List A

-- ---- from slices

-- how many points stand x, y in turn
abbrev pub points_in : List Float → ℕ
points_in coords = length coords / 2

-- every second number from `off` on, n of them, in a room of 66 that is +0.0 elsewhere
unfoldable pub every_other : List Float → ℕ → ℕ → List Float
every_other coords n off = listed 0 66 (λ i. cond (ltb i n) (at1 plain coords (2 * i + off)) zero64)

-- the knots of n control points in their room of 70
abbrev pub given_knots : ℕ → List Float → List Float
given_knots n ks = pasted ks (n + 4) (replicate 70 zero64) 0

-- control points x, y in turn, and knots
abbrev pub slice_shape : List Float → List Float → Shape Float
slice_shape coords ks =
    let n = points_in coords in
    record { n = n; xs = every_other coords n 0; ys = every_other coords n 1; knots = given_knots n ks }
