-- A round leaves fewer rounds to follow. Assumes nothing.
use mathlib.Core.Path.{◌≡◌}
use mathlib.Core.Bool.{Bool, true, false, cond}
use Prim.Native.Nat.{◌-◌, ◌<◌}
use native.Mathlib.Omega.{arith}
use borrow.Author.Tests.{ltb-true}
use lib.Ieee.{Float, lt, le}
use Rattle.meaning.specs.Scalar.{plain, zero64}
use Rattle.meaning.specs.Number.{size_of, clamp_of}
use Rattle.plane.specs.Vector.{Vector}
use Rattle.shape.specs.Shape.{Shape}
use Rattle.closest.specs.Search.{still, from, to, slope_at, round_of, unfinished}
use Rattle.closest.specs.Search.{Progress}

module _ (c : Shape Float) (p : Vector Float) where
  pub round_falls : (s : Progress) → unfinished s ≡ true → (round_of c p s).left < s.left
  unfolding round_of
  round_falls s h = by (le (slope_at c p s.t).df zero64) (lt (size_of (plain.minus next s.t)) still)
    where
      next : Float
      next = clamp_of (plain.minus s.t (plain.over (slope_at c p s.t).f (slope_at c p s.t).df)) (from c) (to c)

      by : (a b : Bool) → (cond {A = Progress} a (record { t = s.t; left = 0 }) (record { t = next; left = cond b 0 (s.left - 1) })).left < s.left
      by true b = ltb-true 0 s.left h
      by false true = ltb-true 0 s.left h
      by false false = omega (arith, ltb-true 0 s.left h)
