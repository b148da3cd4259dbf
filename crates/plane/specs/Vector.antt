-- Vectors of the plane, over any scalar. The original's `P2` decides the operations and their order.
use Rattle.std.proofs.Math.Bool.{cond}
use Rattle.std.specs.Prelude.{Float}
use Rattle.std.specs.Float.Ieee.{binary64, mul, lt, of_bits}
use Rattle.meaning.specs.Scalar.{Ops, plain, zero64, one64}

pub record Vector (A : Type 0) : Type 0 where
  pub x : A
  pub y : A

-- Below this squared length a vector has no direction: 1e-24.
abbrev pub degenerate : Float
degenerate = of_bits binary64 0x3af3_57c2_99a8_8ea7

module _ {A : Type 0} (o : Ops A) where
  abbrev pub add_v : Vector A → Vector A → Vector A
  add_v a b = record { x = o.plus a.x b.x; y = o.plus a.y b.y }

  abbrev pub sub_v : Vector A → Vector A → Vector A
  sub_v a b = record { x = o.minus a.x b.x; y = o.minus a.y b.y }

  abbrev pub scale_v : Vector A → A → Vector A
  scale_v a k = record { x = o.times a.x k; y = o.times a.y k }

  abbrev pub dot_v : Vector A → Vector A → A
  dot_v a b = o.plus (o.times a.x b.x) (o.times a.y b.y)

  -- the outer product
  abbrev pub cross_v : Vector A → Vector A → A
  cross_v a b = o.minus (o.times a.x b.y) (o.times a.y b.x)

  -- A quarter turn counter-clockwise. What is negated twice is what it was, but as a result, whose partials are counted.
  abbrev pub rot90_v : Vector A → Vector A
  rot90_v a = record { x = o.opp a.y; y = o.opp (o.opp a.x) }

  -- The root of the square; of a near-zero vector it is a constant. (the original takes the greater of the square and 0 there, which is the square.)
  unfoldable pub norm_v : Vector A → A
  norm_v a = let sq = dot_v a a in cond (lt (o.val sq) degenerate) (o.cst (plain.root (o.val sq))) (o.root sq)

  -- a over its length, or the constant (1, 0) where that length's square says that there is none
  unfoldable pub unit_v : Vector A → Vector A
  unfolding norm_v
  unit_v a =
      let len = norm_v a in
      cond (lt (mul binary64 (o.val len) (o.val len)) degenerate)
      (record { x = o.cst one64; y = o.cst zero64 })
      (record { x = o.over a.x len; y = o.over a.y len })
