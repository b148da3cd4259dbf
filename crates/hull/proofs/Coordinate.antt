-- Both theorems for one coordinate: cs are that coordinate of the control points. Assumes nothing.
use mathlib.Core.Path.{◌≡◌, sym, ap, ◌∙◌, subst}
use mathlib.Core.Bool.{true}
use mathlib.Core.List.{List, []}
use Prim.Native.Nat.{ℕ, ◌+◌, ◌-◌, ◌*◌, ◌^◌, ◌≤◌, ◌<◌}
use native.Mathlib.Omega.{arith}
use lib.ListN.{get_or, take}
use lib.Dec.{T}
use lib.Ieee.{Float}
use lib.Ieee.Bits.{is_true}
use lib.Ieee.Scale.{finite}
use Rattle.meaning.specs.Scalar.{plain}
use Rattle.meaning.specs.Table.{at1}
use Rattle.knots.specs.Rules.{knot}
use Rattle.knots.proofs.Accepted.{Accepted}
use Rattle.basis.specs.Basis.{basis_of}
use Rattle.shape.specs.Shape.{Shape}
use Rattle.evaluate.specs.Point.{weighted}
use Rattle.hull.specs.Units.{U, plus, minus, rise_of}
use Rattle.hull.specs.Hull.{least_of, greatest_of, largest_of, InHull}
use Rattle.hull.specs.Asked.{span_at, LongSpan, Modest}
use Rattle.hull.proofs.Given.{Coordinates, Within}
use Rattle.hull.proofs.Operations.{Whole, parts}
use Rattle.hull.proofs.Reading.{whole}
use Rattle.hull.proofs.Sums.{NearHull}
use Rattle.hull.proofs.Around.{coordinate, in_hull}
use Rattle.hull.proofs.FinitePoint.{Bounded, always_finite}
use Rattle.hull.proofs.FourPoints.{bounds, between}
use Rattle.hull.proofs.SixKnots.{each, holds, six}
use Rattle.hull.proofs.RowZero.{coordinate_is}

module _ (c : Shape Float) (t : Float) (a : Accepted (take (c.n + 4) c.knots) c.n) (d : Within c t) (cs : List Float)
    (k : Coordinates c.n cs) (nd : ℕ) where
  -- what the definition makes of them at t, where the orders up to nd are asked for
  abbrev answered : Float
  answered = weighted plain cs (span_at c t) (get_or (basis_of plain c.knots (span_at c t) t nd) 0 [])

  -- coordinate j of the four
  abbrev C : ℕ → Float
  C j = at1 plain cs (span_at c t - 3 + j)

  -- the same, straight from the six knots and the four coordinates
  abbrev straight : Float
  straight =
      coordinate (knot c.knots (span_at c t + 1 - 3)) (knot c.knots (span_at c t + 1 - 2)) (knot c.knots (span_at c t + 1 - 1)) t
      (knot c.knots (span_at c t + 1)) (knot c.knots (span_at c t + 2)) (knot c.knots (span_at c t + 3)) (C 0) (C 1) (C 2) (C 3)

  is_straight : answered ≡ straight
  is_straight = let s = holds c t a d in let r = a.room in coordinate_is c.knots (span_at c t) t cs nd s.low (omega arith)

  near : (j : ℕ) → j ≤ 3 → span_at c t - 3 + j < c.n
  near j h = let s = holds c t a d in omega arith

  whole-at : (j : ℕ) → j ≤ 3 → Whole (C j)
  whole-at j h = whole _ (k.fine (span_at c t - 3 + j) (near j h)) (each cs k.doubles (span_at c t - 3 + j))

  pub hull_coordinate : finite answered ≡ true → InHull cs (span_at c t) answered
  hull_coordinate f =
      let lo = least_of cs (span_at c t) in
      let hi = greatest_of cs (span_at c t) in
      let m = largest_of cs (span_at c t) in
      let b = bounds (C 0) (C 1) (C 2) (C 3) in
      let h : NearHull straight (plus lo) (minus lo) (plus hi) (minus hi) m =
      in_hull _ _ _ _ _ _ _ (C 0) (C 1) (C 2) (C 3) (plus lo) (minus lo) (plus hi) (minus hi) m (six c t a d)
      (between (C 0) lo hi m (whole-at 0 (omega arith)) b.la b.ha b.sa)
      (between (C 1) lo hi m (whole-at 1 (omega arith)) b.lb b.hb b.sb)
      (between (C 2) lo hi m (whole-at 2 (omega arith)) b.lc b.hc b.sc)
      (between (C 3) lo hi m (whole-at 3 (omega arith)) b.ld b.hd b.sd)
      (subst (λ (z : ℕ). z ≤ m) (parts lo) b.sl) (subst (λ (z : ℕ). z ≤ m) (parts hi) b.sh)
      (subst T (sym (ap finite (sym is_straight) ∙ f)) tt)
      in
      subst (InHull cs (span_at c t)) (sym is_straight)
      (record { below = h.below; above = h.above })

  pub fine_coordinate : LongSpan c (span_at c t) → Modest c.n cs → finite answered ≡ true
  fine_coordinate l m =
      let e : span_at c t + 1 - 1 ≡ span_at c t = omega arith in
      let bounded : (j : ℕ) → j ≤ 3 → Bounded (C j) =
      λ j h. record { whole = whole-at j h; size = subst (λ (z : ℕ). z ≤ U * 2 ^ 500) (parts (C j)) (m (span_at c t - 3 + j) (near j h)) }
      in
      ap finite is_straight
      ∙ is_true _ (always_finite _ _ _ _ _ _ _ (C 0) (C 1) (C 2) (C 3) (six c t a d)
      (subst (λ (z : ℕ). U ≤ rise_of (knot c.knots z) (knot c.knots (span_at c t + 1)) * 2 ^ 20) (sym e) l)
      (bounded 0 (omega arith)) (bounded 1 (omega arith)) (bounded 2 (omega arith)) (bounded 3 (omega arith)))
