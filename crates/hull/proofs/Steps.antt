-- A step of A2.3 splits a value N into R * q and L * q for q = N / (R + L), and the two sum to N but for roundings, whatever R and L are; then the
-- levels of one, two and three steps. Assumes nothing.
use mathlib.Core.Path.{◌≡◌, refl, sym, ap, ◌∙◌, subst}
use Prim.Native.Nat.{ℕ, ◌+◌, ◌*◌, ◌^◌, ◌≤◌, ◌<◌}
use native.Mathlib.Nat.{le_trans, zero-add}
use native.Mathlib.Omega.{arith}
use mathlib.Core.Bool.{false}
use lib.IntN.{pos}
use lib.Dec.{T, lit≤}
use lib.Ieee.{Float, fin, add, mul, div}
use lib.Ieee.Scale.{finite}
use Rattle.meaning.specs.Root.{in_units}
use Rattle.hull.specs.Units.{U, plus}
use Rattle.hull.proofs.Rounding.{P, Within}
use Rattle.meaning.proofs.Values.{B, U_pos, mag_is, mul_finite, add_finite, div_finite}
use Rattle.hull.proofs.Numbers.{twice, step_off, fold1, fold2, fold3, join, level_off}
use Rattle.hull.proofs.NotBelow.{Pos, Total, add_pos, mul_scaled, mul-pos, div_pos, mag_of}
use Rattle.hull.proofs.NoOverflow.{K, add_fine}

-- `zero64` and `one64`, computed
abbrev pub nought : Float
nought = fin false 0 (pos 0)

abbrev pub one : Float
one = fin false 1 (pos 0)

-- ---- one step, as `cell_of` computes it: R is the knot difference to the right, L that to the left, N a value of the level before
unfoldable pub temp : Float → Float → Float → Float
temp R L N = div B N (add B R L)

unfoldable pub to-right : Float → Float → Float → Float
unfolding temp
to-right R L N = mul B R (temp R L N)

unfoldable pub to-left : Float → Float → Float → Float
unfolding temp
to-left R L N = mul B L (temp R L N)

-- ---- what is asked of R and L: not below zero, not both zero, and no more than 2 ^ 22 together
pub record Ends (R L : Float) : Type 0 where
  pub right : Pos R
  pub left : Pos L
  pub some : 0 < plus R + plus L
  pub room : plus R + plus L ≤ U * 2 ^ 22

pub record Whole_length (D : Float) (v : ℕ) : Type 0 where
  pub total : Total D v
  pub some : 0 < plus D
  pub room : plus D ≤ U * 2 ^ 23

pub length_of_lem : (R L : Float) → Ends R L → Whole_length (add B R L) (plus R + plus L)
length_of_lem R L e =
    let p = e.right in
    let q = e.left in
    let h : in_units R + in_units L ≤ K = subst (λ (a : ℕ). a + in_units L ≤ K) (sym (mag_of R p))
    (subst (λ (b : ℕ). plus R + b ≤ K) (sym (mag_of L q)) (le_trans e.room (lit≤ tt))) in
    let t = add_pos R L p q (add_fine R L p.whole q.whole h) in
    record {
      total = t;
      some = some_of (plus (add B R L)) (plus R + plus L) e.some t.off;
      room = room_of_lem (plus (add B R L)) (plus R + plus L) U
          e.room t.off;
    }
  where
    some_of : (d v : ℕ) → 0 < v → Within v (d * P) (v * P) → 0 < d
    some_of d v h w = let a = w.below in omega arith

    room_of_lem : (d v u : ℕ) → v ≤ u * 2 ^ 22 → Within v (d * P) (v * P) → d ≤ u * 2 ^ 23
    room_of_lem d v u h w = le_trans (twice d v w).0 (go v u h)
      where
        go : (v u : ℕ) → v ≤ u * 2 ^ 22 → v * 2 ≤ u * 2 ^ 23
        go v u h = omega arith

-- ---- a step
pub record Step (R L N : Float) : Type 0 where
  pub rightward : Pos (to-right R L N)
  pub leftward : Pos (to-left R L N)
  pub off : Within (plus N * 5 + P * 2 ^ 23) ((plus (to-right R L N) + plus (to-left R L N)) * P) (plus N * P)

pub step : (R L N : Float) → Ends R L → Pos N → T (finite (to-right R L N)) → T (finite (to-left R L N)) → Step R L N
unfolding to-right to-left temp
step R L N e n f g =
    let d = length_of_lem R L e in
    let D = add B R L in
    let q = div_pos N D n d.total.pos d.some (mul_finite B R (div B N D) f).1 in
    let x = mul_scaled R (div B N D) e.right.whole q.pos f in
    let y = mul_scaled L (div B N D) e.left.whole q.pos g in
    record {
      rightward = mul-pos R (div B N D) e.right q.pos f;
      leftward = mul-pos L (div B N D) e.left q.pos g;
      off = step_off U (plus N) (plus R) (plus L) (plus D) (plus (div B N D)) (plus (mul B R (div B N D))) (plus (mul B L (div B N D))) U_pos
          d.total.off q.off x.above y.above d.room;
    }

pub right_finite : (R L N : Float) → T (finite (to-right R L N)) → T (finite N)
unfolding to-right temp
right_finite R L N h = div_finite B N (add B R L) (mul_finite B R (div B N (add B R L)) h).1

pub left_finite : (R L N : Float) → T (finite (to-left R L N)) → T (finite N)
unfolding to-left temp
left_finite R L N h = div_finite B N (add B R L) (mul_finite B L (div B N (add B R L)) h).1

-- ---- the constants
pub plus_nought : plus nought ≡ 0
plus_nought = mag_is nought false 0 (refl, refl)

pub nought_pos : Pos nought
nought_pos = record { whole = subst (λ (a : ℕ). (false ≡ false) × (0 * U ≡ a * 1)) (sym plus_nought) (refl, refl); none = refl }

pub plus_one : plus one ≡ U
plus_one = mag_is one false U (refl, refl)

pub one_pos : Pos one
one_pos = record { whole = subst (λ (a : ℕ). (false ≡ false) × (1 * U ≡ a * 1)) (sym plus_one) (refl, refl); none = refl }

pub add_nought : (x : Float) → Pos x → T (finite (add B nought x)) → Total (add B nought x) (plus x)
add_nought x p h = subst (Total (add B nought x)) (ap (λ (a : ℕ). a + plus x) plus_nought ∙ zero-add (plus x)) (add_pos nought x nought_pos p h)

-- ---- the levels
pub record Level1 (N n m : Float) : Type 0 where
  pub first : Pos n
  pub second : Pos m
  pub off : Within (plus N * 7 + 2 ^ 24 * P) ((plus n + plus m) * P) (plus N * P)

pub level1 : (r l N : Float) → Ends r l → Pos N → T (finite (add B nought (to-right r l N))) → T (finite (to-left r l N))
    → Level1 N (add B nought (to-right r l N)) (to-left r l N)
level1 r l N e p f g =
    let x = to-right r l N in
    let y = to-left r l N in
    let s = step r l N e p (add_finite B nought x f).1 g in
    let t = add_nought x s.rightward f in
    record {
      first = t.pos;
      second = s.leftward;
      off = level_off (plus (add B nought x) + plus y) (plus x + plus y) (plus N) (2 ^ 23) (fold1 (plus x) (plus y) (plus (add B nought x)) t.off)
          s.off;
    }

pub record Level2 (M N n m k : Float) : Type 0 where
  pub first : Pos n
  pub second : Pos m
  pub third : Pos k
  pub off : Within ((plus M + plus N) * 7 + 2 ^ 25 * P) ((plus n + plus m + plus k) * P) ((plus M + plus N) * P)

pub level2 : (r l M r' l' N : Float) → Ends r l → Ends r' l' → Pos M → Pos N → T (finite (add B nought (to-right r l M)))
    → T (finite (add B (to-left r l M) (to-right r' l' N))) → T (finite (to-left r' l' N))
    → Level2 M N (add B nought (to-right r l M)) (add B (to-left r l M) (to-right r' l' N)) (to-left r' l' N)
level2 r l M r' l' N e e' p q f g h =
    let x = to-right r l M in
    let y = to-left r l M in
    let z = to-right r' l' N in
    let w = to-left r' l' N in
    let s = step r l M e p (add_finite B nought x f).1 (add_finite B y z g).0 in
    let t = step r' l' N e' q (add_finite B y z g).1 h in
    let a = add_nought x s.rightward f in
    let b = add_pos y z s.leftward t.rightward g in
    record {
      first = a.pos;
      second = b.pos;
      third = t.leftward;
      off = level_off (plus (add B nought x) + plus (add B y z) + plus w) (plus x + plus y + (plus z + plus w)) (plus M + plus N) (2 ^ 24)
          (fold2 (plus x) (plus y) (plus z) (plus w) (plus (add B nought x)) (plus (add B y z)) a.off b.off)
          (join (plus M) (plus N) (plus x + plus y) (plus z + plus w) (P * 2 ^ 23) (P * 2 ^ 23) P s.off t.off);
    }

pub record Level3 (L M N n m k j : Float) : Type 0 where
  pub first : Pos n
  pub second : Pos m
  pub third : Pos k
  pub fourth : Pos j
  pub off : Within ((plus L + plus M + plus N) * 7 + 2 ^ 24 * 3 * P) ((plus n + plus m + plus k + plus j) * P) ((plus L + plus M + plus N) * P)

pub level3 : (r l L r' l' M r'' l'' N : Float) → Ends r l → Ends r' l' → Ends r'' l'' → Pos L → Pos M → Pos N
    → T (finite (add B nought (to-right r l L))) → T (finite (add B (to-left r l L) (to-right r' l' M))) → T
    (finite (add B (to-left r' l' M) (to-right r'' l'' N))) → T (finite (to-left r'' l'' N))
    → Level3 L M N (add B nought (to-right r l L)) (add B (to-left r l L) (to-right r' l' M)) (add B (to-left r' l' M) (to-right r'' l'' N))
    (to-left r'' l'' N)
level3 r l L r' l' M r'' l'' N e e' e'' o p q f g h i =
    let x = to-right r l L in
    let y = to-left r l L in
    let z = to-right r' l' M in
    let w = to-left r' l' M in
    let s = to-right r'' l'' N in
    let t = to-left r'' l'' N in
    let u = step r l L e o (add_finite B nought x f).1 (add_finite B y z g).0 in
    let v = step r' l' M e' p (add_finite B y z g).1 (add_finite B w s h).0 in
    let k = step r'' l'' N e'' q (add_finite B w s h).1 i in
    let a = add_nought x u.rightward f in
    let b = add_pos y z u.leftward v.rightward g in
    let c = add_pos w s v.leftward k.rightward h in
    record {
      first = a.pos;
      second = b.pos;
      third = c.pos;
      fourth = k.leftward;
      off = level_off (plus (add B nought x) + plus (add B y z) + plus (add B w s) + plus t)
          (plus x + plus y + (plus z + plus w) + (plus s + plus t)) (plus L + plus M + plus N) (2 ^ 23 * 3)
          (fold3 (plus x) (plus y) (plus z) (plus w) (plus s) (plus t) (plus (add B nought x)) (plus (add B y z)) (plus (add B w s)) a.off
          b.off c.off)
          (join (plus L + plus M) (plus N) (plus x + plus y + (plus z + plus w)) (plus s + plus t) (P * 2 ^ 23 + P * 2 ^ 23) (P * 2 ^ 23) P
          (join (plus L) (plus M) (plus x + plus y) (plus z + plus w) (P * 2 ^ 23) (P * 2 ^ 23) P u.off v.off) k.off);
    }
