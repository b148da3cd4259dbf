-- One sample and one round, from what the code calls for them. Assumes nothing.
use mathlib.Core.Path.{◌≡◌, sym, ap, ◌∙◌}
use mathlib.Core.Bool.{Bool, true, false, ◌&&◌}
use mathlib.Core.List.{List}
use Prim.Native.Nat.{ℕ, ◌+◌, ◌-◌}
use lib.ListN.{take}
use lib.Ieee.{Float, inf, lt, le}
use lib.Ieee.Scale.{finite}
use Rattle.meaning.specs.Scalar.{plain, zero64}
use Rattle.meaning.specs.Table.{at1}
use Rattle.meaning.specs.Number.{size_of, clamp_of}
use Rattle.span.specs.Counting.{counted_of}
use Rattle.knots.proofs.Sorted.{front}
use Rattle.knots.proofs.Accepted.{Accepted}
use Rattle.span.proofs.Spans.{accepted_span}
use Rattle.plane.specs.Vector.{Vector, sub_v, dot_v}
use Rattle.shape.specs.Shape.{Shape}
use Rattle.evaluate.specs.Point.{orders_of}
use Rattle.evaluate.specs.Near.{point_near}
use Rattle.evaluate.proofs.Places.{same_span}
use Rattle.evaluate.proofs.Near.{near_is}
use Rattle.point.specs.Point.{point_orders}
use Rattle.distance_rule.specs.Distance.{distance_of}
use Rattle.distance_rule.specs.Squares.{square_of, limit_of}
use Rattle.closest.specs.Search.{order_in, still, from, to, distance_at, slope_at, round_of}
use Rattle.closest.specs.Sampling.{square_at, beyond_limit, next_best, sampled}
use Rattle.closest.specs.declared.Best.{Best}
use Rattle.closest.specs.declared.Slope.{Slope}
use Rattle.closest.specs.Search.{Progress}

module _ (c : Shape Float) (good : Accepted (take (c.n + 4) c.knots) c.n) where
  -- the span that the code finds is the rules'
  pub orders_are : (t : Float) (nd : ℕ) → orders_of plain (counted_of c.knots c.n) c t nd ≡ point_orders c t nd
  orders_are t nd = same_span plain c t nd (λ x. accepted_span c.knots c.n x good)

  module _ (p : Vector Float) (t : Float) where
    -- the point near whatever span was tried
    module _ (i : ℕ) {v : Vector Float} (e : v ≡ point_near c t i) where
      point_is : v ≡ order_in (point_orders c t 0) 0
      point_is =
          e
          ∙ near_is c good.four good.room (front c.knots c.n good.sound.rises) t i
          ∙ ap (λ (l : List Float). order_in l 0) (orders_are t 0)

      pub square_is : {s : Float} → s ≡ square_of v p → s ≡ square_at c p t
      unfolding square_at
      square_is q = q ∙ ap (λ (w : Vector Float). square_of w p) point_is

      pub distance_is : {d : Float} → d ≡ distance_of v p → d ≡ distance_at c p t
      unfolding distance_at
      distance_is q = q ∙ ap (λ (w : Vector Float). distance_of w p) point_is

    pub slope_is : {at : List Float} {w : Vector Float} {f s : Float} → at ≡ orders_of plain (counted_of c.knots c.n) c t 2 → w ≡ sub_v plain (order_in at 0) p
        → f ≡ dot_v plain w (order_in at 1) → s ≡ dot_v plain (order_in at 1) (order_in at 1)
        → ◌≡◌ {A = Slope} (record { f = f; df = plain.plus (plain.plus s (plain.times w.x (at1 plain at 4))) (plain.times w.y (at1 plain at 5)) }) (slope_at c p t)
    unfolding slope_at
    slope_is e q g h = rw (← orders_are t 2, ← e, g, h, q)

module _ (c : Shape Float) (p : Vector Float) where
  -- a sample whose square is past the limit; of the others one that is nearer, and one that is not
  module _ (b : Best) (t : Float) {s : Float} (e : s ≡ square_at c p t) {past : Bool} (q : past ≡ (le b.limit s && lt s (inf false))) where
    past_limit : past ≡ beyond_limit c p b t
    past_limit = q ∙ ap (λ (x : Float). le b.limit x && lt x (inf false)) e

    pub beyond : past ≡ true → b ≡ sampled c p b t
    unfolding sampled
    beyond h = rw (sym past_limit ∙ h)

    module _ (h : past ≡ false) {d : Float} (r : d ≡ distance_at c p t) {fine : Bool} (g : fine ≡ (b.fine && finite d)) where
      asked : next_best c p b t ≡ sampled c p b t
      unfolding sampled
      asked = rw (sym past_limit ∙ h)

      pub taken : lt d b.d ≡ true → {limit : Float} → limit ≡ limit_of s → ◌≡◌ {A = Best} (record { t = t; limit = limit; d = d; fine = fine }) (sampled c p b t)
      unfolding next_best
      taken k l = (rw (← e, ← r, k, l, g)) ∙ asked

      pub passed : lt d b.d ≡ false → ◌≡◌ {A = Best} (record { t = b.t; limit = b.limit; d = b.d; fine = fine }) (sampled c p b t)
      unfolding next_best
      passed k = (rw (← r, k, g)) ∙ asked

  -- the last round and another
  module _ (s : Progress) {g : Slope} (e : g ≡ slope_at c p s.t) where
    pub no_descent : le g.df zero64 ≡ true → ◌≡◌ {A = Progress} (record { t = s.t; left = 0 }) (round_of c p s)
    unfolding round_of
    no_descent h = rw (← e, h)

    module _ (h : le g.df zero64 ≡ false) {next size : Float} (q : next ≡ clamp_of (plain.minus s.t (plain.over g.f g.df)) (from c) (to c)) (r : size ≡ size_of (plain.minus next s.t)) where
      pub arrived : lt size still ≡ true → ◌≡◌ {A = Progress} (record { t = next; left = 0 }) (round_of c p s)
      unfolding round_of
      arrived k = rw (← e, h, ← q, ← r, k)

      pub moved : lt size still ≡ false → ◌≡◌ {A = Progress} (record { t = next; left = s.left - 1 }) (round_of c p s)
      unfolding round_of
      moved k = rw (← e, h, ← q, ← r, k)
