-- Demand 3 (docs/RULES.md) as the two promises of a call that asks a curve for its point at t. `r` is the refusal that the call answers, `out` and
-- `out'` are the lent slice before and after it.
use Rattle.std.specs.Prelude.{◌≡◌, List, ℕ, ◌≤◌, length, Float}
use Rattle.meaning.specs.Scalar.{plain}
use Rattle.meaning.specs.Table.{at1}
use Rattle.refusal.specs.Refusals.{Verdict, none, first_of}
use Rattle.shape.specs.Shape.{Shape}
use Rattle.shape.specs.Offered.{Offered}
use Rattle.hull.specs.Hull.{InHull}
use Rattle.hull.specs.Asked.{InDomain, span_at, Drawable}

-- x and y lie in the hull of the four control points of t's span
pub record PointInHull (c : Shape Float) (t x y : Float) : Type 0 where
  pub x_in : InHull c.xs (span_at c t) x
  pub y_in : InHull c.ys (span_at c t) y

-- an answered point, the first two numbers of the slice, lies in its hull
abbrev pub InItsHull : Offered → Float → Verdict → List Float → Type 0
InItsHull who t r out' = r ≡ none → InDomain who.shape t → PointInHull who.shape t (at1 plain out' 0) (at1 plain out' 1)

-- the point alone of an accepted curve, with room for it, is not refused
abbrev pub NeverRefused : Offered → Float → ℕ → List Float → Verdict → Type 0
NeverRefused who t order out r = first_of who.rules ≡ none → Drawable who.shape t → order ≡ 0 → 2 ≤ length out → r ≡ none
