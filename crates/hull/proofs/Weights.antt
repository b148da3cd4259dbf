-- Three levels make four weights, none below zero, whose sum is 1 but for 23 * 2 ^ -53. Assumes nothing.
use mathlib.Core.Path.{subst}
use Prim.Native.Nat.{ℕ, ◌+◌, ◌*◌, ◌^◌}
use lib.Dec.{T, lit≤}
use lib.Ieee.{Float, add}
use lib.Ieee.Scale.{finite}
use Rattle.hull.specs.Units.{U, plus}
use Rattle.hull.proofs.Rounding.{P, Within}
use Rattle.meaning.proofs.Values.{B, add_finite}
use Rattle.hull.proofs.Numbers.{three}
use Rattle.hull.proofs.NotBelow.{Pos}
use Rattle.hull.proofs.Steps.{nought, one, to-right, to-left, Ends, Level1, Level2, Level3, level1, level2, level3, right_finite, left_finite, plus_one, one_pos}

-- ---- the table of A2.3 at order 0, from the knot differences to the right and to the left
module _ (r1 r2 r3 l1 l2 l3 : Float) where
  abbrev pub n01 : Float
  n01 = add B nought (to-right r1 l1 one)

  abbrev pub n11 : Float
  n11 = to-left r1 l1 one

  abbrev pub n02 : Float
  n02 = add B nought (to-right r1 l2 n01)

  abbrev pub n12 : Float
  n12 = add B (to-left r1 l2 n01) (to-right r2 l1 n11)

  abbrev pub n22 : Float
  n22 = to-left r2 l1 n11

  abbrev pub n03 : Float
  n03 = add B nought (to-right r1 l3 n02)

  abbrev pub n13 : Float
  n13 = add B (to-left r1 l3 n02) (to-right r2 l2 n12)

  abbrev pub n23 : Float
  n23 = add B (to-left r2 l2 n12) (to-right r3 l1 n22)

  abbrev pub n33 : Float
  n33 = to-left r3 l1 n22

pub record Weights (w x y z : Float) : Type 0 where
  pub first : Pos w
  pub second : Pos x
  pub third : Pos y
  pub fourth : Pos z
  pub off : Within (U * 23) ((plus w + plus x + plus y + plus z) * P) (U * P)

module _ (r1 r2 r3 l1 l2 l3 : Float) (e11 : Ends r1 l1) (e12 : Ends r1 l2) (e21 : Ends r2 l1) (e13 : Ends r1 l3) (e22 : Ends r2 l2)
    (e31 : Ends r3 l1) where
  pub all_levels : Level1 one (n01 r1 r2 r3 l1 l2 l3) (n11 r1 r2 r3 l1 l2 l3)
      → Level2 (n01 r1 r2 r3 l1 l2 l3) (n11 r1 r2 r3 l1 l2 l3) (n02 r1 r2 r3 l1 l2 l3) (n12 r1 r2 r3 l1 l2 l3) (n22 r1 r2 r3 l1 l2 l3)
      → Level3 (n02 r1 r2 r3 l1 l2 l3) (n12 r1 r2 r3 l1 l2 l3) (n22 r1 r2 r3 l1 l2 l3) (n03 r1 r2 r3 l1 l2 l3) (n13 r1 r2 r3 l1 l2 l3)
      (n23 r1 r2 r3 l1 l2 l3) (n33 r1 r2 r3 l1 l2 l3)
      → Weights (n03 r1 r2 r3 l1 l2 l3) (n13 r1 r2 r3 l1 l2 l3) (n23 r1 r2 r3 l1 l2 l3) (n33 r1 r2 r3 l1 l2 l3)
  all_levels a b c =
      let s = plus (n01 r1 r2 r3 l1 l2 l3) + plus (n11 r1 r2 r3 l1 l2 l3) in
      let t = plus (n02 r1 r2 r3 l1 l2 l3) + plus (n12 r1 r2 r3 l1 l2 l3) + plus (n22 r1 r2 r3 l1 l2 l3) in
      let r = plus (n03 r1 r2 r3 l1 l2 l3) + plus (n13 r1 r2 r3 l1 l2 l3) + plus (n23 r1 r2 r3 l1 l2 l3) + plus (n33 r1 r2 r3 l1 l2 l3) in
      record {
        first = c.first;
        second = c.second;
        third = c.third;
        fourth = c.fourth;
        off = three U s t r (2 ^ 24) (2 ^ 25) (2 ^ 24 * 3) (lit≤ tt) (lit≤ tt) (lit≤ tt)
            (subst (λ (u : ℕ). Within (u * 7 + 2 ^ 24 * P) (s * P) (u * P)) plus_one a.off) b.off c.off;
      }

  -- where the four weights are finite, so is all that they are made of
  pub weights : T (finite (n03 r1 r2 r3 l1 l2 l3)) → T (finite (n13 r1 r2 r3 l1 l2 l3)) → T (finite (n23 r1 r2 r3 l1 l2 l3))
      → T (finite (n33 r1 r2 r3 l1 l2 l3))
      → Weights (n03 r1 r2 r3 l1 l2 l3) (n13 r1 r2 r3 l1 l2 l3) (n23 r1 r2 r3 l1 l2 l3) (n33 r1 r2 r3 l1 l2 l3)
  weights f g h i =
      let m02 = n02 r1 r2 r3 l1 l2 l3 in
      let m12 = n12 r1 r2 r3 l1 l2 l3 in
      let m22 = n22 r1 r2 r3 l1 l2 l3 in
      let m01 = n01 r1 r2 r3 l1 l2 l3 in
      let m11 = n11 r1 r2 r3 l1 l2 l3 in
      let f02 : T (finite m02) = right_finite r1 l3 m02 (add_finite B nought (to-right r1 l3 m02) f).1 in
      let f12 : T (finite m12) = right_finite r2 l2 m12 (add_finite B (to-left r1 l3 m02) (to-right r2 l2 m12) g).1 in
      let f22 : T (finite m22) = left_finite r3 l1 m22 i in
      let f01 : T (finite m01) = right_finite r1 l2 m01 (add_finite B nought (to-right r1 l2 m01) f02).1 in
      let f11 : T (finite m11) = left_finite r2 l1 m11 f22 in
      let a = level1 r1 l1 one e11 one_pos f01 f11 in
      let b = level2 r1 l2 m01 r2 l1 m11 e12 e21 a.first a.second f02 f12 f22 in
      let c = level3 r1 l3 m02 r2 l2 m12 r3 l1 m22 e13 e22 e31 b.first b.second b.third f g h i in
      all_levels a b c
