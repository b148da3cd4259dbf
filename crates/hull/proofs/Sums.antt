-- Four products of coordinates and weights, summed from +0.0, lie in the hull of the coordinates. Assumes nothing.
use mathlib.Core.Path.{ap, ◌∙◌, subst}
use Prim.Native.Nat.{ℕ, ◌+◌, ◌*◌, ◌^◌, ◌≤◌}
use native.Mathlib.Nat.{mul-le-mul_right, mul-le-mul_left, zero-add, le_refl}
use native.Mathlib.Omega.{arith}
use lib.Dec.{T, lit≤}
use lib.Ieee.{Float, add, mul}
use lib.Ieee.Scale.{finite}
use Rattle.hull.specs.Units.{U, plus, minus}
use Rattle.hull.proofs.Rounding.{P, H, Within}
use Rattle.meaning.proofs.Values.{B, U_pos, add_finite}
use Rattle.hull.proofs.Operations.{Whole, gap, add_model, one_part}
use Rattle.hull.proofs.Numbers.{widen, reach, run, products, hull-number}
use Rattle.hull.proofs.NotBelow.{mul_scaled}
use Rattle.hull.proofs.Steps.{nought, plus_nought, nought_pos}
use Rattle.hull.proofs.Weights.{Weights}

-- ---- the running sum, with D the exact sum of the terms above zero and A of those below
pub record Run (c : Float) (A D k : ℕ) : Type 0 where
  pub whole : Whole c
  pub off : Within ((A + D) * k) ((plus c + A) * P) ((minus c + D) * P)

gap_le : (X Y : ℕ) → gap X Y ≤ X + Y
gap_le X Y = omega arith

grow : (A D m n k : ℕ) → (A + D) * k + (A + D) * 2 + (m + n) ≤ (A + n + (D + m)) * (k + 2)
grow A D m n k = omega arith

pub start : (m : Float) → Whole m → T (finite (add B nought m)) → Run (add B nought m) (minus m) (plus m) 2
start m p h =
    let s = add_model nought m nought_pos.whole p h in
    let r = add B nought m in
    let w : Within (gap (plus m) (0 + minus m)) ((plus r + (0 + minus m)) * P) ((minus r + plus m) * P) =
    subst (λ (x : ℕ). Within (gap x (0 + minus m)) ((plus r + (0 + minus m)) * P) ((minus r + x) * P))
    (ap (λ (a : ℕ). a + plus m) plus_nought ∙ zero-add (plus m)) s.off in
    let v : Within (gap (plus m) (minus m)) ((plus r + minus m) * P) ((minus r + plus m) * P) =
    subst (λ (x : ℕ). Within (gap (plus m) x) ((plus r + x) * P) ((minus r + plus m) * P)) (zero-add (minus m)) w in
    record {
      whole = s.whole;
      off = widen (gap (plus m) (minus m)) ((minus m + plus m) * 2) ((plus r + minus m) * P) ((minus r + plus m) * P)
          (go (plus m) (minus m)) v;
    }
  where
    go : (X Y : ℕ) → gap X Y ≤ (Y + X) * 2
    go X Y = omega arith

pub next : (c m : Float) (A D k : ℕ) → k ≤ 8 → Run c A D k → Whole m → T (finite (add B c m)) → Run (add B c m) (A + minus m) (D + plus m) (k + 2)
next c m A D k l r p h =
    let s = add_model c m r.whole p h in
    let x = plus c + plus m in
    let y = minus c + minus m in
    let q = add B c m in
    record {
      whole = s.whole;
      off = widen ((A + D) * k + (A + D) * 2 + (plus m + minus m)) ((A + minus m + (D + plus m)) * (k + 2)) ((plus q + (A + minus m)) * P)
          ((minus q + (D + plus m)) * P) (grow A D (plus m) (minus m) k)
          (run (plus c) (minus c) A D ((A + D) * k) (plus m) (minus m) (plus q) (minus q)
          (reach (plus c) (minus c) A D ((A + D) * k) (one_part c) r.off (mul-le-mul_left (A + D) l)) r.off
          (widen (gap x y) (x + y) ((plus q + y) * P) ((minus q + x) * P) (gap_le x y) s.off));
    }

-- ---- the sum of the products of the coordinates C and the weights w
module _ (C0 C1 C2 C3 w0 w1 w2 w3 : Float) where
  abbrev pub point : Float
  point = add B (add B (add B (add B nought (mul B C0 w0)) (mul B C1 w1)) (mul B C2 w2)) (mul B C3 w3)

within-hull : (p q r s a b c d n m k l hp hn : ℕ) → p + hn ≤ hp + n → q + hn ≤ hp + m → r + hn ≤ hp + k → s + hn ≤ hp + l
    → p * a + q * b + r * c + s * d + (a + b + c + d) * hn ≤ (a + b + c + d) * hp + (n * a + m * b + k * c + l * d)
within-hull p q r s a b c d n m k l hp hn e f g h =
    let i = mul-le-mul_right a e in
    let j = mul-le-mul_right b f in
    let t = mul-le-mul_right c g in
    let u = mul-le-mul_right d h in
    omega arith

within_size : (p q r s a b c d n m k l M : ℕ) → p + n ≤ M → q + m ≤ M → r + k ≤ M → s + l ≤ M
    → p * a + q * b + r * c + s * d + (n * a + m * b + k * c + l * d) ≤ M * (a + b + c + d)
within_size p q r s a b c d n m k l M e f g h =
    let i = mul-le-mul_right a e in
    let j = mul-le-mul_right b f in
    let t = mul-le-mul_right c g in
    let u = mul-le-mul_right d h in
    omega arith

-- ---- the four coordinates lie from lp - ln to hp - hn, and M is no smaller than any of their sizes; all in units
pub record Between (C : Float) (lp ln hp hn M : ℕ) : Type 0 where
  pub whole : Whole C
  pub up_to : plus C + hn ≤ hp + minus C
  pub down_to : minus C + lp ≤ ln + plus C
  pub size : plus C + minus C ≤ M

-- the bound of `InHull`, in letters for the parts of the least and of the greatest
pub record NearHull (c : Float) (lp ln hp hn M : ℕ) : Type 0 where
  pub below : (lp + minus c) * 2 ^ 47 ≤ (plus c + ln) * 2 ^ 47 + (M + 2 ^ 51)
  pub above : (plus c + hn) * 2 ^ 47 ≤ (hp + minus c) * 2 ^ 47 + (M + 2 ^ 51)

flip : (e g x : ℕ) → Within e g x → Within e x g
flip e g x w = record { above = w.below; below = w.above }

turn : (a b : ℕ) → (a + b) * 8 ≤ (b + a) * 8
turn a b = omega arith

turned : (a b c d k w : ℕ) → (a + b) * k ≤ (c + d) * k + w → (b + a) * k ≤ (d + c) * k + w
turned a b c d k w h = omega arith

swapped : (a b c : ℕ) → a + b ≤ c → b + a ≤ c
swapped a b c h = omega arith

module _ (C0 C1 C2 C3 w0 w1 w2 w3 : Float) (lp ln hp hn M : ℕ) (b0 : Between C0 lp ln hp hn M) (b1 : Between C1 lp ln hp hn M)
    (b2 : Between C2 lp ln hp hn M) (b3 : Between C3 lp ln hp hn M)
    (lo : lp + ln ≤ M) (hi : hp + hn ≤ M) (w : Weights w0 w1 w2 w3) (f : T (finite (point C0 C1 C2 C3 w0 w1 w2 w3))) where
  pub hull : NearHull (point C0 C1 C2 C3 w0 w1 w2 w3) lp ln hp hn M
  hull =
      let m0 = mul B C0 w0 in
      let m1 = mul B C1 w1 in
      let m2 = mul B C2 w2 in
      let m3 = mul B C3 w3 in
      let c1 = add B nought m0 in
      let c2 = add B c1 m1 in
      let c3 = add B c2 m2 in
      let c4 = add B c3 m3 in
      let f3 = add_finite B c3 m3 f in
      let f2 = add_finite B c2 m2 f3.0 in
      let f1 = add_finite B c1 m1 f2.0 in
      let f0 = add_finite B nought m0 f1.0 in
      let s0 = mul_scaled C0 w0 b0.whole w.first f0.1 in
      let s1 = mul_scaled C1 w1 b1.whole w.second f1.1 in
      let s2 = mul_scaled C2 w2 b2.whole w.third f2.1 in
      let s3 = mul_scaled C3 w3 b3.whole w.fourth f3.1 in
      let r1 = start m0 s0.whole f1.0 in
      let r2 = next c1 m1 (minus m0) (plus m0) 2 (lit≤ tt) r1 s1.whole f2.0 in
      let r3 = next c2 m2 (minus m0 + minus m1) (plus m0 + plus m1) 4 (lit≤ tt) r2 s2.whole f3.0 in
      let r4 = next c3 m3 (minus m0 + minus m1 + minus m2) (plus m0 + plus m1 + plus m2) 6 (lit≤ tt) r3 s3.whole f in
      let A = minus m0 + minus m1 + minus m2 + minus m3 in
      let D = plus m0 + plus m1 + plus m2 + plus m3 in
      let S = plus w0 + plus w1 + plus w2 + plus w3 in
      let Q = plus C0 * plus w0 + plus C1 * plus w1 + plus C2 * plus w2 + plus C3 * plus w3 in
      let W = minus C0 * plus w0 + minus C1 * plus w1 + minus C2 * plus w2 + minus C3 * plus w3 in
      let q : Within (Q + U * H * 4) (D * U * P) (Q * P) = products U (plus m0) (plus m1) (plus m2) (plus m3) (plus C0 * plus w0) (plus C1 * plus w1)
      (plus C2 * plus w2) (plus C3 * plus w3) s0.above s1.above s2.above s3.above in
      let n : Within (W + U * H * 4) (A * U * P) (W * P) = products U (minus m0) (minus m1) (minus m2) (minus m3) (minus C0 * plus w0)
      (minus C1 * plus w1) (minus C2 * plus w2) (minus C3 * plus w3) s0.below s1.below s2.below s3.below in
      let up : Q + S * hn ≤ S * hp + W = within-hull (plus C0) (plus C1) (plus C2) (plus C3) (plus w0) (plus w1) (plus w2) (plus w3) (minus C0)
      (minus C1) (minus C2) (minus C3) hp hn b0.up_to b1.up_to b2.up_to b3.up_to in
      let down : W + S * lp ≤ S * ln + Q = within-hull (minus C0) (minus C1) (minus C2) (minus C3) (plus w0) (plus w1) (plus w2) (plus w3) (plus C0)
      (plus C1) (plus C2) (plus C3) ln lp b0.down_to b1.down_to b2.down_to b3.down_to in
      let size : Q + W ≤ M * S = within_size (plus C0) (plus C1) (plus C2) (plus C3) (plus w0) (plus w1) (plus w2) (plus w3) (minus C0) (minus C1)
      (minus C2) (minus C3) M b0.size b1.size b2.size b3.size in
      let e = (A + D) * 8 in
      record {
        above = hull-number U S A D Q W (plus c4) (minus c4) hp hn M e U_pos w.off r4.off (le_refl e) q n up size hi;
        below = turned (minus c4) lp ln (plus c4) (2 ^ 47) (M + 2 ^ 51)
            (hull-number U S D A W Q (minus c4) (plus c4) ln lp M e U_pos w.off (flip e ((plus c4 + A) * P) ((minus c4 + D) * P) r4.off)
            (turn A D) n q down (swapped Q W (M * S) size) (swapped lp ln M lo));
      }
