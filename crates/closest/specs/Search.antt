-- The search for the closest parameter. docs/RULES.md, "Closest parameter", decides; in a round the original's `closest_param` decides the order of the
-- operations. The code's struct `Slope` is what a round divides.
use Rattle.std.specs.Prelude.{Bool, not, ◌||◌, cond, List, [], ◌∷◌, ◌++◌, ℕ, ◌+◌, ◌-◌, ◌*◌, length, ltb, Float}
use Rattle.std.specs.Float.{binary64}
use Rattle.std.specs.Float.Ieee.{lt, le, is_nan, of_bits}
use Rattle.std.specs.Float.Ieee.Scale.{finite}
use Rattle.meaning.specs.Scalar.{plain, zero64}
use Rattle.meaning.specs.Table.{at1}
use Rattle.meaning.specs.Loops.{rest}
use Rattle.meaning.specs.Search.{every}
use Rattle.meaning.specs.Number.{size_of, clamp_of}
use Rattle.refusal.specs.Refusals.{Row, row}
use Rattle.plane.specs.Vector.{Vector, sub_v, dot_v}
use Rattle.shape.specs.Shape.{Shape}
use Rattle.shape.specs.Offered.{Offered, with11}
use Rattle.outcome.specs.Outcome.{either_wild}
use Rattle.outcome.specs.Told.{Values, telling}
use Rattle.point.specs.Point.{point_orders}
use Rattle.samples.specs.Samples.{samples_of}
use Rattle.distance_rule.specs.Distance.{distance_of}
use Rattle.closest.specs.Nearest.{first_nearest}
use Rattle.closest.specs.declared.Slope.{Slope}

-- order k of those that stand x, y in turn
abbrev pub order_in : List Float → ℕ → Vector Float
order_in d k = record { x = at1 plain d (2 * k); y = at1 plain d (2 * k + 1) }

-- a move below this is the last: 1e-15
abbrev pub still : Float
still = of_bits binary64 0x3cd2_03af_9ee7_5616

-- the ends of the domain
abbrev pub from : Shape Float → Float
from c = at1 plain c.knots 0

abbrev pub to : Shape Float → Float
to c = at1 plain c.knots (c.n + 3)

-- 16 samples for each knot pair that rises, and the domain's end
abbrev pub samples_in : Shape Float → List Float
samples_in c = samples_of c 16

-- a parameter, and how many rounds may follow
pub record Progress : Type 0 where
  pub t : Float
  pub left : ℕ

-- a round is left
abbrev pub unfinished : Progress → Bool
unfinished s = ltb 0 s.left

module _ (c : Shape Float) (p : Vector Float) where
  -- ---- the samples

  -- how far the curve's point at t lies from p
  unfoldable pub distance_at : Float → Float
  distance_at t = distance_of (order_in (point_orders c t 0) 0) p

  -- every sample has a finite distance
  unfoldable pub samples_fine : Bool
  samples_fine = every (length (samples_in c)) (λ k. finite (distance_at (at1 plain (samples_in c) k)))

  -- the first of the nearest
  unfoldable pub nearest_sample : Float
  unfolding first_nearest
  nearest_sample = at1 plain (samples_in c) (first_nearest distance_at (samples_in c))

  -- ---- Newton's rounds on (C - p)·C' = 0

  -- (C - p)·C' at t and its derivative, C'·C' + (C - p)·C''
  unfoldable pub slope_at : Float → Slope
  slope_at t =
      let d = point_orders c t 2 in
      let w = sub_v plain (order_in d 0) p in
      let c1 = order_in d 1 in
      let c2 = order_in d 2 in
      record {
        f = dot_v plain w c1;
        df = plain.plus (plain.plus (dot_v plain c1 c1) (plain.times w.x c2.x)) (plain.times w.y c2.y);
      }

  -- one round; it is the last where the derivative is 0 or less, which leaves t as it is, or where the move is small
  unfoldable pub round_of : Progress → Progress
  round_of s =
      let g = slope_at s.t in
      let next = clamp_of (plain.minus s.t (plain.over g.f g.df)) (from c) (to c) in
      cond (le g.df zero64)
      (record { t = s.t; left = 0 })
      (record { t = next; left = cond (lt (size_of (plain.minus next s.t)) still) 0 (s.left - 1) })

  -- at most 30 rounds from t on
  unfoldable pub newton_from : Float → Float
  newton_from t = (rest unfinished round_of (λ s. s.left) (record { t = t; left = 30 })).t

  -- ---- the parameter, and the refusals that follow those of the curve

  unfoldable pub closest_of : Float
  closest_of = newton_from nearest_sample

  -- the curve's rules, with 11 for the point, then 15
  abbrev pub search_rules : List Row → List Row
  search_rules rules = with11 (either_wild p.x p.y) rules ++ (row 15 (not samples_fine || is_nan closest_of) ∷ [])

unfoldable pub closest_answer : Offered → Vector Float → Values
closest_answer who p = telling (search_rules who.shape p who.rules) (closest_of who.shape p ∷ [])
