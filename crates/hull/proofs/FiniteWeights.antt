-- Over a span of at least 2 ^ -20 each number on the way to the weights is finite, and the weights sum to at most 2. Assumes nothing.
use mathlib.Core.Path.{sym, subst}
use Prim.Native.Nat.{ℕ, ◌+◌, ◌*◌, ◌^◌, ◌≤◌, ◌<◌}
use native.Mathlib.Nat.{le_refl, le_trans, le_of_eq, mul-le-mul_right, mul-le-mul_left, mul-le-mul}
use native.Mathlib.Omega.{arith}
use lib.Dec.{T, lit≤}
use lib.Ieee.{Float, add, mul, div}
use lib.Ieee.Scale.{finite}
use Rattle.meaning.specs.Root.{in_units}
use Rattle.hull.specs.Units.{U, plus}
use Rattle.hull.proofs.Rounding.{P, Within}
use Rattle.meaning.proofs.Values.{B}
use Rattle.hull.proofs.Numbers.{first_of, second_of, twice, near_five, near_all}
use Rattle.hull.proofs.NotBelow.{Pos, div_pos, mag_of}
use Rattle.hull.proofs.NoOverflow.{K, rest, add_fine, mul_fine, div_fine}
use Rattle.hull.proofs.Steps.{nought, one, nought_pos, one_pos, plus_nought, plus_one, temp, to-right, to-left, Ends, length_of_lem, Step, step, level1, level2, level3}
use Rattle.hull.proofs.Weights.{Weights, all_levels, n01, n11, n02, n12, n22, n03, n13, n23, n33}

-- ---- numbers
quotient-room : (N D u k : ℕ) → N ≤ u * 2 → u ≤ D * 2 ^ 22 → u * 2 ^ 23 ≤ k → N * u ≤ k * D
quotient-room N D u k h i j =
    let a = mul-le-mul_right u h in
    let b = mul-le-mul_left (u * 2) i in
    let c = mul-le-mul_right D j in
    omega arith

long_enough : (v d u : ℕ) → u ≤ v * 2 ^ 21 → Within v (d * P) (v * P) → u ≤ d * 2 ^ 22
long_enough v d u h w = go d v u (twice d v w).1 h
  where
    go : (d v u : ℕ) → v ≤ d * 2 → u ≤ v * 2 ^ 21 → u ≤ d * 2 ^ 22
    go d v u h k = omega arith

answer-room : (z n f u : ℕ) → n ≤ u * 2 → f ≤ u → z * P ≤ n * P + (n * 5 + f * P) → z ≤ u * 8
answer-room z n f u h k w = let a = near_five z n f w in omega arith

-- ---- one step
pub record Good (R L N : Float) : Type 0 where
  pub fl : T (finite (to-left R L N))
  pub made : Step R L N
  pub br : plus (to-right R L N) ≤ U * 8
  pub bl : plus (to-left R L N) ≤ U * 8

factor-fine : (x q : Float) → Pos x → Pos q → plus x ≤ U * 2 ^ 22 → plus q ≤ U * 2 ^ 25 → T (finite (mul B x q))
factor-fine x q p r h k =
    mul_fine x q p.whole r.whole
    (subst (λ (a : ℕ). a * in_units q ≤ K * U) (sym (mag_of x p))
    (subst (λ (b : ℕ). plus x * b ≤ K * U) (sym (mag_of q r)) (le_trans (mul-le-mul h k) (lit≤ tt))))

module _ (R L N : Float) (e : Ends R L) (long : U ≤ (plus R + plus L) * 2 ^ 21) (n : Pos N) (s : plus N ≤ U * 2) where
  temp_fine : T (finite (div B N (add B R L)))
  temp_fine =
      let d = length_of_lem R L e in
      let D = add B R L in
      let p = d.total.pos in
      div_fine N D n.whole p.whole (subst (λ (b : ℕ). 0 < b) (sym (mag_of D p)) d.some)
      (subst (λ (a : ℕ). a * U ≤ K * in_units D) (sym (mag_of N n)) (subst (λ (b : ℕ). plus N * U ≤ K * b) (sym (mag_of D p))
      (quotient-room (plus N) (plus D) U K s (long_enough (plus R + plus L) (plus D) U long d.total.off) (lit≤ tt))))

  temp_room : (Pos (div B N (add B R L))) × (plus (div B N (add B R L)) ≤ U * 2 ^ 25)
  temp_room =
      let d = length_of_lem R L e in
      let D = add B R L in
      let q = div_pos N D n d.total.pos d.some temp_fine in (
        q.pos,
        le_trans (rest (plus (div B N D)) (plus N * U) (plus D) (U * 2 ^ 23) d.some
            (quotient-room (plus N) (plus D) U (U * 2 ^ 23) s (long_enough (plus R + plus L) (plus D) U long d.total.off) (le_refl (U * 2 ^ 23)))
            q.off) (lit≤ tt),
      )

  right-fine : T (finite (to-right R L N))
  unfolding to-right temp
  right-fine = factor-fine R (div B N (add B R L)) e.right temp_room.0 (first_of (plus R) (plus L) (U * 2 ^ 22) e.room) temp_room.1

  left-fine : T (finite (to-left R L N))
  unfolding to-left temp
  left-fine = factor-fine L (div B N (add B R L)) e.left temp_room.0 (second_of (plus R) (plus L) (U * 2 ^ 22) e.room) temp_room.1

  pub good : Good R L N
  good =
      let t = step R L N e n right-fine left-fine in
      let a : plus (to-right R L N) + plus (to-left R L N) ≤ U * 8 = answer-room (plus (to-right R L N) + plus (to-left R L N)) (plus N) (2 ^ 23) U s
      (lit≤ tt) t.off.above in
      record {
        fl = left-fine;
        made = t;
        br = first_of (plus (to-right R L N)) (plus (to-left R L N)) (U * 8) a;
        bl = second_of
            (plus (to-right R L N)) (plus (to-left R L N)) (U * 8) a;
      }

sum_fine : (x y : Float) → Pos x → Pos y → plus x ≤ U * 8 → plus y ≤ U * 8 → T (finite (add B x y))
sum_fine x y p q h k =
    add_fine x y p.whole q.whole
    (subst (λ (a : ℕ). a + in_units y ≤ K) (sym (mag_of x p))
    (subst (λ (b : ℕ). plus x + b ≤ K) (sym (mag_of y q)) (le_trans (go (plus x) (plus y) U h k) (lit≤ tt))))
  where
    go : (a b u : ℕ) → a ≤ u * 8 → b ≤ u * 8 → a + b ≤ u * 16
    go a b u h k = omega arith

nought_fine : (x : Float) → Pos x → plus x ≤ U * 8 → T (finite (add B nought x))
nought_fine x p h = sum_fine nought x nought_pos p (subst (λ (a : ℕ). a ≤ U * 8) (sym plus_nought) (lit≤ tt)) h

-- ---- the levels
after_one : (s u f : ℕ) → f * 64 ≤ u → s * P ≤ u * P + (u * 7 + f * P) → s * 64 ≤ u * 66
after_one s u f k h = let a = near_all s u f h in omega arith

after_two : (t s u g : ℕ) → s * 64 ≤ u * 66 → g * 64 ≤ u → t * P ≤ s * P + (s * 7 + g * P) → t * 2 ≤ u * 3
after_two t s u g h k w = let a = near_all t s g w in omega arith

after_three : (r t u g : ℕ) → t * 2 ≤ u * 3 → g * 64 ≤ u → r * P ≤ t * P + (t * 7 + g * P) → r ≤ u * 2
after_three r t u g h k w = let a = near_all r t g w in omega arith

one_of_two : (a b u : ℕ) → (a + b) * 64 ≤ u * 66 → (a ≤ u * 2) × (b ≤ u * 2)
one_of_two a b u h = omega arith

one_of_three : (a b c u : ℕ) → (a + b + c) * 2 ≤ u * 3 → (a ≤ u * 2) × (b ≤ u * 2) × (c ≤ u * 2)
one_of_three a b c u h = omega arith

pub record Settled (w x y z : Float) : Type 0 where
  pub weights : Weights w x y z
  pub room : plus w + plus x + plus y + plus z ≤ U * 2

module _ (r1 r2 r3 l1 l2 l3 : Float) (e11 : Ends r1 l1) (e12 : Ends r1 l2) (e21 : Ends r2 l1) (e13 : Ends r1 l3) (e22 : Ends r2 l2) (e31 : Ends r3 l1)
    (b11 : U ≤ (plus r1 + plus l1) * 2 ^ 21) (b12 : U ≤ (plus r1 + plus l2) * 2 ^ 21) (b21 : U ≤ (plus r2 + plus l1) * 2 ^ 21)
    (b13 : U ≤ (plus r1 + plus l3) * 2 ^ 21) (b22 : U ≤ (plus r2 + plus l2) * 2 ^ 21) (b31 : U ≤ (plus r3 + plus l1) * 2 ^ 21) where
  pub settled : Settled (n03 r1 r2 r3 l1 l2 l3) (n13 r1 r2 r3 l1 l2 l3) (n23 r1 r2 r3 l1 l2 l3) (n33 r1 r2 r3 l1 l2 l3)
  settled =
      let m01 = n01 r1 r2 r3 l1 l2 l3 in
      let m11 = n11 r1 r2 r3 l1 l2 l3 in
      let m02 = n02 r1 r2 r3 l1 l2 l3 in
      let m12 = n12 r1 r2 r3 l1 l2 l3 in
      let m22 = n22 r1 r2 r3 l1 l2 l3 in
      let m03 = n03 r1 r2 r3 l1 l2 l3 in
      let m13 = n13 r1 r2 r3 l1 l2 l3 in
      let m23 = n23 r1 r2 r3 l1 l2 l3 in
      let m33 = n33 r1 r2 r3 l1 l2 l3 in
      let g = good r1 l1 one e11 b11 one_pos (le_trans (le_of_eq plus_one) (lit≤ tt)) in
      let a = level1 r1 l1 one e11 one_pos (nought_fine (to-right r1 l1 one) g.made.rightward g.br) g.fl in
      let s1 = after_one (plus m01 + plus m11) U (2 ^ 24) (lit≤ tt)
      (subst (λ (u : ℕ). (plus m01 + plus m11) * P ≤ u * P + (u * 7 + 2 ^ 24 * P)) plus_one a.off.above) in
      let q1 = one_of_two (plus m01) (plus m11) U s1 in
      let h = good r1 l2 m01 e12 b12 a.first q1.0 in
      let i = good r2 l1 m11 e21 b21 a.second q1.1 in
      let b = level2 r1 l2 m01 r2 l1 m11 e12 e21 a.first a.second (nought_fine (to-right r1 l2 m01) h.made.rightward h.br)
      (sum_fine (to-left r1 l2 m01) (to-right r2 l1 m11) h.made.leftward i.made.rightward h.bl i.br) i.fl in
      let s2 = after_two (plus m02 + plus m12 + plus m22) (plus m01 + plus m11) U (2 ^ 25) s1 (lit≤ tt) b.off.above in
      let q2 = one_of_three (plus m02) (plus m12) (plus m22) U s2 in
      let j = good r1 l3 m02 e13 b13 b.first q2.0 in
      let k = good r2 l2 m12 e22 b22 b.second q2.1 in
      let l = good r3 l1 m22 e31 b31 b.third q2.2 in
      let c = level3 r1 l3 m02 r2 l2 m12 r3 l1 m22 e13 e22 e31 b.first b.second b.third
      (nought_fine (to-right r1 l3 m02) j.made.rightward j.br)
      (sum_fine (to-left r1 l3 m02) (to-right r2 l2 m12) j.made.leftward k.made.rightward j.bl k.br)
      (sum_fine (to-left r2 l2 m12) (to-right r3 l1 m22) k.made.leftward l.made.rightward k.bl l.br) l.fl in
      record {
        weights = all_levels r1 r2 r3 l1 l2 l3 e11 e12 e21 e13 e22 e31 a b c;
        room = after_three (plus m03 + plus m13 + plus m23 + plus m33) (plus m02 + plus m12 + plus m22) U (2 ^ 24 * 3) s2 (lit≤ tt) c.off.above;
      }
