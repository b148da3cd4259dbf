-- Six knots in order around a parameter: each pair of differences sums to more than zero and at most 2 ^ 22, so the coordinate that is made of
-- them lies in the hull. Assumes nothing.
use mathlib.Core.Path.{◌≡◌, sym, ap, subst}
use Prim.Native.Nat.{ℕ, ◌+◌, ◌-◌, ◌*◌, ◌^◌, ◌≤◌, ◌<◌}
use native.Mathlib.Nat.{le_trans}
use native.Mathlib.Omega.{arith}
use lib.Dec.{T, lit≤}
use lib.Ieee.{Float, add, sub, mul}
use lib.Ieee.Scale.{finite}
use Rattle.meaning.specs.Root.{in_units}
use Rattle.hull.specs.Units.{U, plus, minus}
use Rattle.meaning.proofs.Values.{B, add_finite, mul_finite}
use Rattle.hull.proofs.Operations.{Whole, parts}
use Rattle.hull.proofs.Numbers.{twice}
use Rattle.hull.proofs.NotBelow.{Total, sub_pos}
use Rattle.hull.proofs.NoOverflow.{K, sub_fine}
use Rattle.hull.proofs.Reading.{AtMost, Under, trans, le_under, under_le}
use Rattle.hull.proofs.Steps.{Ends, nought}
use Rattle.hull.proofs.Weights.{weights, n03, n13, n23, n33}
use Rattle.hull.proofs.Sums.{Between, NearHull, point, hull}

-- ---- a knot: finite, and at most 2 ^ 20 in size
pub record Knot (x : Float) : Type 0 where
  pub whole : Whole x
  pub size : plus x + minus x ≤ U * 2 ^ 20

difference : (x y : Float) → Knot x → Knot y → AtMost y x → Total (sub B x y) (plus x + minus y - (plus y + minus x))
difference x y p q h =
    sub_pos x y (plus x + minus y - (plus y + minus x)) p.whole q.whole (back (plus x + minus y) (plus y) (minus x) h)
    (sub_fine x y p.whole q.whole
    (subst (λ (a : ℕ). a + in_units y ≤ K) (sym (parts x))
    (subst (λ (b : ℕ). plus x + minus x + b ≤ K) (sym (parts y))
    (le_trans (sizes (plus x + minus x) (plus y + minus y) U p.size q.size) (lit≤ tt)))))
  where
    back : (X a b : ℕ) → a + b ≤ X → X ≡ X - (a + b) + (b + a)
    back X a b h = omega arith

    sizes : (a b u : ℕ) → a ≤ u * 2 ^ 20 → b ≤ u * 2 ^ 20 → a + b ≤ u * 2 ^ 21
    sizes a b u h k = omega arith

-- b - t and t - a together: above zero, and 2 ^ 22 at most
module _ (bp bn tp tn ap an R L u : ℕ) (h : ap + tn ≤ tp + an) (k : tp + bn ≤ bp + tn)
    (r : (R ≤ (bp + tn - (tp + bn)) * 2) × (bp + tn - (tp + bn) ≤ R * 2)) (l : (L ≤ (tp + an - (ap + tn)) * 2) × (tp + an - (ap + tn) ≤ L * 2)) where
  some_of : ap + bn < bp + an → 0 < R + L
  some_of m = let x = r.1 in let y = l.1 in omega arith

  room_of_lem : bp + bn ≤ u * 2 ^ 20 → ap + an ≤ u * 2 ^ 20 → R + L ≤ u * 2 ^ 22
  room_of_lem m n = let x = r.0 in let y = l.0 in omega arith

  long_of : bp + an - (ap + bn) ≤ (R + L) * 2
  long_of = let x = r.1 in let y = l.1 in omega arith

module _ (b t a : Float) (kb : Knot b) (kt : Knot t) (ka : Knot a) (h : AtMost a t) (k : AtMost t b) (m : Under a b) where
  pub ends : Ends (sub B b t) (sub B t a)
  ends =
      let r = difference b t kb kt k in
      let l = difference t a kt ka h in
      let x = twice (plus (sub B b t)) (plus b + minus t - (plus t + minus b)) r.off in
      let y = twice (plus (sub B t a)) (plus t + minus a - (plus a + minus t)) l.off in
      record {
        right = r.pos;
        left = l.pos;
        some = some_of (plus b) (minus b) (plus t) (minus t) (plus a) (minus a) (plus (sub B b t)) (plus (sub B t a)) U h k x y m;
        room = room_of_lem (plus b) (minus b) (plus t) (minus t) (plus a) (minus a) (plus (sub B b t)) (plus (sub B t a)) U h k x y kb.size ka.size;
      }

  pub long : plus b + minus a - (plus a + minus b) ≤ (plus (sub B b t) + plus (sub B t a)) * 2
  long =
      let r = difference b t kb kt k in
      let l = difference t a kt ka h in
      let x = twice (plus (sub B b t)) (plus b + minus t - (plus t + minus b)) r.off in
      let y = twice (plus (sub B t a)) (plus t + minus a - (plus a + minus t)) l.off in
      long_of (plus b) (minus b) (plus t) (minus t) (plus a) (minus a) (plus (sub B b t)) (plus (sub B t a)) U h k x y

-- ---- the six knots around a span that is not empty, and a parameter in it
pub record Six (a3 a2 a1 t b1 b2 b3 : Float) : Type 0 where
  pub ka3 : Knot a3
  pub ka2 : Knot a2
  pub ka1 : Knot a1
  pub kt : Knot t
  pub kb1 : Knot b1
  pub kb2 : Knot b2
  pub kb3 : Knot b3
  pub a32 : AtMost a3 a2
  pub a21 : AtMost a2 a1
  pub a1t : AtMost a1 t
  pub tb1 : AtMost t b1
  pub b12 : AtMost b1 b2
  pub b23 : AtMost b2 b3
  pub a1b1 : Under a1 b1

module _ (a3 a2 a1 t b1 b2 b3 : Float) where
  abbrev pub w0 : Float
  w0 = n03 (sub B b1 t) (sub B b2 t) (sub B b3 t) (sub B t a1) (sub B t a2) (sub B t a3)

  abbrev pub w1 : Float
  w1 = n13 (sub B b1 t) (sub B b2 t) (sub B b3 t) (sub B t a1) (sub B t a2) (sub B t a3)

  abbrev pub w2 : Float
  w2 = n23 (sub B b1 t) (sub B b2 t) (sub B b3 t) (sub B t a1) (sub B t a2) (sub B t a3)

  abbrev pub w3 : Float
  w3 = n33 (sub B b1 t) (sub B b2 t) (sub B b3 t) (sub B t a1) (sub B t a2) (sub B t a3)

-- six pairs of knots, each around t
pub record Around (a3 a2 a1 t b1 b2 b3 : Float) : Type 0 where
  pub e11 : Ends (sub B b1 t) (sub B t a1)
  pub e12 : Ends (sub B b1 t) (sub B t a2)
  pub e21 : Ends (sub B b2 t) (sub B t a1)
  pub e13 : Ends (sub B b1 t) (sub B t a3)
  pub e22 : Ends (sub B b2 t) (sub B t a2)
  pub e31 : Ends (sub B b3 t) (sub B t a1)

module _ (a3 a2 a1 t b1 b2 b3 : Float) (s : Six a3 a2 a1 t b1 b2 b3) where
  a2t : AtMost a2 t
  a2t = trans a2 a1 t s.a21 s.a1t

  a3t : AtMost a3 t
  a3t = trans a3 a2 t s.a32 a2t

  tb2 : AtMost t b2
  tb2 = trans t b1 b2 s.tb1 s.b12

  tb3 : AtMost t b3
  tb3 = trans t b2 b3 tb2 s.b23

  u12 : Under a2 b1
  u12 = le_under a2 a1 b1 s.a21 s.a1b1

  pub around : Around a3 a2 a1 t b1 b2 b3
  around = record {
    e11 = ends b1 t a1 s.kb1 s.kt s.ka1 s.a1t s.tb1 s.a1b1;
    e12 = ends b1 t a2 s.kb1 s.kt s.ka2 a2t s.tb1 u12;
    e21 = ends b2 t a1 s.kb2 s.kt s.ka1 s.a1t tb2 (under_le a1 b1 b2 s.a1b1 s.b12);
    e13 = ends b1 t a3 s.kb1 s.kt s.ka3 a3t s.tb1 (le_under a3 a2 b1 s.a32 u12);
    e22 = ends b2 t a2 s.kb2 s.kt s.ka2 a2t tb2 (under_le a2 b1 b2 u12 s.b12);
    e31 = ends b3 t a1 s.kb3 s.kt s.ka1 s.a1t tb3 (under_le a1 b2 b3 (under_le a1 b1 b2 s.a1b1 s.b12) s.b23);
  }

-- ---- an answered coordinate lies in the hull
module _ (a3 a2 a1 t b1 b2 b3 C0 C1 C2 C3 : Float) where
  abbrev pub coordinate : Float
  coordinate = point C0 C1 C2 C3 (w0 a3 a2 a1 t b1 b2 b3) (w1 a3 a2 a1 t b1 b2 b3) (w2 a3 a2 a1 t b1 b2 b3) (w3 a3 a2 a1 t b1 b2 b3)

module _ (a3 a2 a1 t b1 b2 b3 C0 C1 C2 C3 : Float) (lp ln hp hn M : ℕ) (s : Six a3 a2 a1 t b1 b2 b3) (b0 : Between C0 lp ln hp hn M)
    (c1 : Between C1 lp ln hp hn M) (c2 : Between C2 lp ln hp hn M) (c3 : Between C3 lp ln hp hn M)
    (lo : lp + ln ≤ M) (hi : hp + hn ≤ M) where
  pub in_hull : T (finite (coordinate a3 a2 a1 t b1 b2 b3 C0 C1 C2 C3)) → NearHull (coordinate a3 a2 a1 t b1 b2 b3 C0 C1 C2 C3) lp ln hp hn M
  in_hull f =
      let r = around a3 a2 a1 t b1 b2 b3 s in
      let v0 = w0 a3 a2 a1 t b1 b2 b3 in
      let v1 = w1 a3 a2 a1 t b1 b2 b3 in
      let v2 = w2 a3 a2 a1 t b1 b2 b3 in
      let v3 = w3 a3 a2 a1 t b1 b2 b3 in
      let m0 = mul B C0 v0 in
      let m1 = mul B C1 v1 in
      let m2 = mul B C2 v2 in
      let m3 = mul B C3 v3 in
      let f3 = add_finite B (add B (add B (add B nought m0) m1) m2) m3 f in
      let f2 = add_finite B (add B (add B nought m0) m1) m2 f3.0 in
      let f1 = add_finite B (add B nought m0) m1 f2.0 in
      let f0 = add_finite B nought m0 f1.0 in
      hull C0 C1 C2 C3 v0 v1 v2 v3 lp ln hp hn M b0 c1 c2 c3 lo hi
      (weights (sub B b1 t) (sub B b2 t) (sub B b3 t) (sub B t a1) (sub B t a2) (sub B t a3) r.e11 r.e12 r.e21 r.e13 r.e22 r.e31
      (mul_finite B C0 v0 f0.1).1 (mul_finite B C1 v1 f1.1).1 (mul_finite B C2 v2 f2.1).1 (mul_finite B C3 v3 f3.1).1)
      f
