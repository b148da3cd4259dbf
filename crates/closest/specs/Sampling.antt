-- Inner: the samples one after the other, as the code's loop takes them, which only private contracts cite. The struct `Best` is the nearest sample so far,
-- its distance, the square from which on no distance is less, and whether every distance so far is finite.
use Rattle.std.specs.Prelude.{Bool, true, false, ◌&&◌, List, [], ◌∷◌, Float}
use Rattle.std.proofs.Math.Bool.{cond}
use Rattle.std.specs.Float.{inf}
use Rattle.std.specs.Float.Ieee.{lt, le}
use Rattle.std.specs.Float.Ieee.Scale.{finite}
use Rattle.plane.specs.Vector.{Vector}
use Rattle.shape.specs.Shape.{Shape}
use Rattle.point.specs.Point.{point_orders}
use Rattle.distance_rule.specs.Squares.{square_of, limit_of}
use Rattle.closest.specs.Search.{order_in, from, samples_in, distance_at}
use Rattle.closest.specs.declared.Best.{Best}

-- what f makes of a list's numbers, one after the other, from s on
unfoldable pub through : {S : Type 0} → (S → Float → S) → List Float → S → S
through f [] s = s
through f (t ∷ ts) s = through f ts (f s t)

module _ (c : Shape Float) (p : Vector Float) where
  -- the square of the distance at t
  unfoldable pub square_at : Float → Float
  square_at t = square_of (order_in (point_orders c t 0) 0) p

  -- its distance need not be asked: the square says that it is finite and not less
  abbrev pub beyond_limit : Best → Float → Bool
  beyond_limit b t = le b.limit (square_at t) && lt (square_at t) (inf false)

  -- A sample takes the place of the nearest so far only where its distance is less, so that of equal ones the first stays.
  unfoldable pub next_best : Best → Float → Best
  next_best b t =
      let d = distance_at c p t in
      let nearer = lt d b.d in
      record { t = cond nearer t b.t; limit = cond nearer (limit_of (square_at t)) b.limit; d = cond nearer d b.d; fine = b.fine && finite d }

  unfoldable pub sampled : Best → Float → Best
  unfolding next_best
  sampled b t = cond (beyond_limit b t) b (next_best b t)

  -- before the first sample: every finite distance is less
  abbrev pub unsampled : Best
  unsampled = record { t = from c; limit = inf false; d = inf false; fine = true }

  -- after the last
  unfoldable pub best_sample : Best
  best_sample = through sampled (samples_in c) unsampled
