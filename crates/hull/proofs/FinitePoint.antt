-- With coordinates of at most 2 ^ 500 in size the sum of the products is finite, too. Assumes nothing.
use mathlib.Core.Path.{sym, ap, subst}
use Prim.Native.Nat.{ℕ, ◌+◌, ◌-◌, ◌*◌, ◌^◌, ◌≤◌}
use native.Mathlib.Nat.{le_refl, le_trans, mul-le-mul_left, mul-le-mul}
use native.Mathlib.Omega.{arith}
use lib.Dec.{T, lit≤}
use lib.Ieee.{Float, add, sub, mul}
use lib.Ieee.Scale.{finite}
use Rattle.meaning.specs.Root.{in_units}
use Rattle.hull.specs.Units.{U, plus, minus}
use Rattle.meaning.proofs.Values.{B, U_pos}
use Rattle.hull.proofs.Operations.{Whole, parts, one_part}
use Rattle.hull.proofs.Numbers.{strict, first_of, second_of, reach}
use Rattle.hull.proofs.NotBelow.{Pos, mul_scaled, mag_of}
use Rattle.hull.proofs.NoOverflow.{K, rest, add_fine, mul_fine}
use Rattle.hull.proofs.Steps.{nought, nought_pos, plus_nought}
use Rattle.hull.proofs.Sums.{Run, start, next, point}
use Rattle.hull.proofs.Around.{Knot, Six, around, long, coordinate, w0, w1, w2, w3}
use Rattle.hull.proofs.Reading.{AtMost, Under, trans, le_under, under_le}
use Rattle.hull.proofs.FiniteWeights.{Settled, settled}

pub record Bounded (C : Float) : Type 0 where
  pub whole : Whole C
  pub size : plus C + minus C ≤ U * 2 ^ 500

-- a product, and its size
record Term (m : Float) : Type 0 where
  fine : T (finite m)
  whole : Whole m
  above : plus m ≤ U * 2 ^ 503
  below : minus m ≤ U * 2 ^ 503

term : (C w : Float) → Bounded C → Pos w → plus w ≤ U * 2 → Term (mul B C w)
term C w c p h =
    let f = mul_fine C w c.whole p.whole
    (subst (λ (a : ℕ). a * in_units w ≤ K * U) (sym (parts C))
    (subst (λ (b : ℕ). (plus C + minus C) * b ≤ K * U) (sym (mag_of w p)) (le_trans (mul-le-mul c.size h) (lit≤ tt)))) in
    let s = mul_scaled C w c.whole p f in
    record {
      fine = f;
      whole = s.whole;
      above = le_trans (rest (plus (mul B C w)) (plus C * plus w) U (U * 2 ^ 501) U_pos
          (le_trans (mul-le-mul (first_of (plus C) (minus C) (U * 2 ^ 500) c.size) h) (lit≤ tt)) s.above) (lit≤ tt);
      below = le_trans (rest (minus (mul B C w)) (minus C * plus w) U (U * 2 ^ 501) U_pos
          (le_trans (mul-le-mul (second_of (plus C) (minus C) (U * 2 ^ 500) c.size) h) (lit≤ tt)) s.below) (lit≤ tt);
    }

-- one more term
more : (c m : Float) (A D k : ℕ) → k ≤ 8 → Run c A D k → A + D ≤ U * 2 ^ 506 → Term m → T (finite (add B c m))
more c m A D k l r h t =
    add_fine c m r.whole t.whole
    (subst (λ (a : ℕ). a + in_units m ≤ K) (sym (parts c)) (subst (λ (b : ℕ). plus c + minus c + b ≤ K) (sym (parts m))
    (le_trans (go (plus c + minus c) (A + D) (plus m) (minus m) (U * 2 ^ 503) (U * 2 ^ 506)
    (reach (plus c) (minus c) A D ((A + D) * k) (one_part c) r.off (mul-le-mul_left (A + D) l)) h t.above t.below) (lit≤ tt))))
  where
    go : (s a p n x y : ℕ) → s ≤ a * 2 → a ≤ y → p ≤ x → n ≤ x → s + (p + n) ≤ y * 2 + x * 2
    go s a p n x y h k l m = omega arith

few1 : (a d x : ℕ) → a ≤ x → d ≤ x → a + d ≤ x * 8
few1 a d x h k = omega arith

few2 : (a b d e x : ℕ) → a ≤ x → b ≤ x → d ≤ x → e ≤ x → a + b + (d + e) ≤ x * 8
few2 a b d e x h i j k = omega arith

few3 : (a b c d e f x : ℕ) → a ≤ x → b ≤ x → c ≤ x → d ≤ x → e ≤ x → f ≤ x → a + b + c + (d + e + f) ≤ x * 8
few3 a b c d e f x h i j k l m = omega arith

part4 : (a b c d e : ℕ) → a + b + c + d ≤ e → (a ≤ e) × (b ≤ e) × (c ≤ e) × (d ≤ e)
part4 a b c d e h = omega arith

module _ (C0 C1 C2 C3 v0 v1 v2 v3 : Float) (k0 : Bounded C0) (k1 : Bounded C1) (k2 : Bounded C2) (k3 : Bounded C3) (s : Settled v0 v1 v2 v3) where
  pub point_fine : T (finite (point C0 C1 C2 C3 v0 v1 v2 v3))
  point_fine =
      let w = s.weights in
      let q = part4 (plus v0) (plus v1) (plus v2) (plus v3) (U * 2) s.room in
      let m0 = mul B C0 v0 in
      let m1 = mul B C1 v1 in
      let m2 = mul B C2 v2 in
      let m3 = mul B C3 v3 in
      let t0 = term C0 v0 k0 w.first q.0 in
      let t1 = term C1 v1 k1 w.second q.1 in
      let t2 = term C2 v2 k2 w.third q.2 in
      let t3 = term C3 v3 k3 w.fourth q.3 in
      let x = U * 2 ^ 503 in
      let c1 = add B nought m0 in
      let c2 = add B c1 m1 in
      let c3 = add B c2 m2 in
      let f1 : T (finite c1) = add_fine nought m0 nought_pos.whole t0.whole
      (subst (λ (a : ℕ). a + in_units m0 ≤ K) (sym plus_nought)
      (subst (λ (b : ℕ). 0 + b ≤ K) (sym (parts m0)) (le_trans (few0 (plus m0) (minus m0) x t0.above t0.below) (lit≤ tt)))) in
      let r1 = start m0 t0.whole f1 in
      let f2 : T (finite c2) = more c1 m1 (minus m0) (plus m0) 2 (lit≤ tt) r1
      (le_trans (few1 (minus m0) (plus m0) x t0.below t0.above) (lit≤ tt)) t1 in
      let r2 = next c1 m1 (minus m0) (plus m0) 2 (lit≤ tt) r1 t1.whole f2 in
      let f3 : T (finite c3) = more c2 m2 (minus m0 + minus m1) (plus m0 + plus m1) 4 (lit≤ tt) r2
      (le_trans (few2 (minus m0) (minus m1) (plus m0) (plus m1) x t0.below t1.below t0.above t1.above) (lit≤ tt)) t2 in
      let r3 = next c2 m2 (minus m0 + minus m1) (plus m0 + plus m1) 4 (lit≤ tt) r2 t2.whole f3 in
      more c3 m3 (minus m0 + minus m1 + minus m2) (plus m0 + plus m1 + plus m2) 6 (lit≤ tt) r3
      (le_trans (few3 (minus m0) (minus m1) (minus m2) (plus m0) (plus m1) (plus m2) x t0.below t1.below t2.below t0.above
      t1.above t2.above) (lit≤ tt)) t3
    where
      few0 : (a d x : ℕ) → a ≤ x → d ≤ x → 0 + (a + d) ≤ x * 8
      few0 a d x h k = omega arith

-- ---- a long span
length_up : (ap an bp bn cp cn dp dn w u : ℕ) → cp + an ≤ ap + cn → bp + dn ≤ dp + bn → ap + bn ≤ bp + an → u ≤ (bp + an - (ap + bn)) * 2 ^ 20
    → dp + cn - (cp + dn) ≤ w * 2 → u ≤ w * 2 ^ 21
length_up ap an bp bn cp cn dp dn w u h k l m n = omega arith

same : (x : Float) → AtMost x x
same x = le_refl (plus x + minus x)

-- the span from a1 to b1, and a pair of knots a and b around it
module _ (a1 t b1 : Float) (h1 : Under a1 b1) (l1 : U ≤ (plus b1 + minus a1 - (plus a1 + minus b1)) * 2 ^ 20) (kt : Knot t) where
  pair : (b a : Float) → Knot b → Knot a → AtMost a a1 → AtMost b1 b → AtMost a t → AtMost t b → U ≤ (plus (sub B b t) + plus (sub B t a)) * 2 ^ 21
  pair b a kb ka h k i j =
      length_up (plus a1) (minus a1) (plus b1) (minus b1) (plus a) (minus a) (plus b) (minus b) (plus (sub B b t) + plus (sub B t a)) U h k
      (strict (plus a1 + minus b1) (plus b1 + minus a1) h1) l1
      (long b t a kb kt ka i j (under_le a b1 b (le_under a a1 b1 h h1) k))

module _ (a3 a2 a1 t b1 b2 b3 C0 C1 C2 C3 : Float) (s : Six a3 a2 a1 t b1 b2 b3) (l : U ≤ (plus b1 + minus a1 - (plus a1 + minus b1)) * 2 ^ 20)
    (k0 : Bounded C0) (k1 : Bounded C1) (k2 : Bounded C2) (k3 : Bounded C3) where
  pub always_finite : T (finite (coordinate a3 a2 a1 t b1 b2 b3 C0 C1 C2 C3))
  always_finite =
      let r = around a3 a2 a1 t b1 b2 b3 s in
      let a2t = trans a2 a1 t s.a21 s.a1t in
      let a31 = trans a3 a2 a1 s.a32 s.a21 in
      let a3t = trans a3 a1 t a31 s.a1t in
      let b13 = trans b1 b2 b3 s.b12 s.b23 in
      let tb2 = trans t b1 b2 s.tb1 s.b12 in
      let tb3 = trans t b1 b3 s.tb1 b13 in
      let p = pair a1 t b1 s.a1b1 l s.kt in
      point_fine C0 C1 C2 C3 (w0 a3 a2 a1 t b1 b2 b3) (w1 a3 a2 a1 t b1 b2 b3) (w2 a3 a2 a1 t b1 b2 b3) (w3 a3 a2 a1 t b1 b2 b3) k0 k1 k2 k3
      (settled (sub B b1 t) (sub B b2 t) (sub B b3 t) (sub B t a1) (sub B t a2) (sub B t a3) r.e11 r.e12 r.e21 r.e13 r.e22 r.e31
      (p b1 a1 s.kb1 s.ka1 (same a1) (same b1) s.a1t s.tb1)
      (p b1 a2 s.kb1 s.ka2 s.a21 (same b1) a2t s.tb1)
      (p b2 a1 s.kb2 s.ka1 (same a1) s.b12 s.a1t tb2)
      (p b1 a3 s.kb1 s.ka3 a31 (same b1) a3t s.tb1)
      (p b2 a2 s.kb2 s.ka2 s.a21 s.b12 a2t tb2)
      (p b3 a1 s.kb3 s.ka1 (same a1) b13 s.a1t tb3))
