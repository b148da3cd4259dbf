-- A result whose exact size is at most 2 ^ 1022 is finite; K is that size in units. Assumes nothing.
use mathlib.Core.Path.{sym, ◌∙◌, subst}
use Prim.Native.Nat.{ℕ, suc, ◌+◌, ◌-◌, ◌*◌, ◌^◌, ◌≤◌, ◌<◌}
use native.Mathlib.Nat.{le_of_mul-le-mul_right, mul-le-mul_right, lt_of_le_of_lt, mul-pos}
use native.Mathlib.Omega.{arith}
use mathlib.Core.Bool.{Bool, true, false, not, ◌&&◌, beq, cond}
use lib.Dec.{T, ltb, lit<}
use lib.Ieee.{Float, unlike, round, sum, add, sub, neg, mul, div}
use lib.Ieee.Scale.{grid, finite}
use Rattle.meaning.specs.Root.{in_units}
use Rattle.hull.specs.Units.{U, negative}
use Rattle.hull.proofs.Rounding.{P, H, Within, units_off, whole-off}
use Rattle.meaning.proofs.Values.{B, U_pos, round_val, value_finite, mul_is, div_is, add_is}
use Rattle.hull.proofs.Operations.{Whole, neg_has, sub_opened}

abbrev pub K : ℕ
K = 2 ^ 2096

by_grid : (s : Bool) (n d : ℕ) → grid B n d ≤ suc (K * 2) → T (finite (round B s n d))
by_grid s n d h = value_finite (round B s n d) s (grid B n d) U (round_val B s n d (lt_of_le_of_lt h (lit< tt)))

-- ---- sums
round_fine : (s : Bool) (q : ℕ) → q ≤ K → T (finite (round B s q U))
round_fine s q h = by_grid s q U (go (grid B q U) q K (whole-off 53 q U (lit< tt) U_pos) h)
  where
    go : (g q k : ℕ) → Within q (g * P) (q * P) → q ≤ k → g ≤ suc (k * 2)
    go g q k w h = let a = w.above in omega arith

less : (a b k : ℕ) → a + b ≤ k → a - b ≤ k
less a b k h = omega arith

less' : (a b k : ℕ) → a + b ≤ k → b - a ≤ k
less' a b k h = omega arith

sum_fine : (s t : Bool) (a b : ℕ) → a + b ≤ K → T (finite (sum B s a t b U))
unfolding sum
sum_fine s t a b h = go (beq s t) (ltb a b)
  where
    go : (k l : Bool) → T (finite (cond k (round B s (a + b) U) (cond l (round B t (b - a) U) (round B (s && ltb b a) (a - b) U))))
    go true l = round_fine s (a + b) h
    go false true = round_fine t (b - a) (less' a b K h)
    go false false = round_fine (s && ltb b a) (a - b) (less a b K h)

pub add_fine : (x y : Float) → Whole x → Whole y → in_units x + in_units y ≤ K → T (finite (add B x y))
add_fine x y p q h = subst (λ (z : Float). T (finite z)) (sym (add_is B x y (negative x) (negative y) (in_units x) (in_units y) U U_pos p q))
    (sum_fine (negative x) (negative y) (in_units x) (in_units y) h)

pub sub_fine : (x y : Float) → Whole x → Whole y → in_units x + in_units y ≤ K → T (finite (sub B x y))
sub_fine x y p q h =
    subst (λ (z : Float). T (finite z))
    (sym (sub_opened x y ∙ add_is B x (neg y) (negative x) (not (negative y)) (in_units x) (in_units y) U U_pos p
    (neg_has y (negative y) (in_units y) U q)))
    (sum_fine (negative x) (not (negative y)) (in_units x) (in_units y) h)

-- ---- products and quotients: n / d is at most k units
pub rest : (g n d k : ℕ) → 0 < d → n ≤ k * d → Within (n + d * H) (g * d * P) (n * P) → g ≤ suc (k * 2)
rest g n d k o h w = last g k (le_of_mul-le-mul_right {k = d} (apart g k d P H (go (g * d) n (k * d) d h w.above)) o)
  where
    go : (gd n kd d : ℕ) → n ≤ kd → gd * P ≤ n * P + (n + d * H) → gd * P ≤ kd * P + (kd + d * H)
    go gd n kd d h w = omega arith

    apart : (g k d p h : ℕ) → g * d * p ≤ k * d * p + (k * d + d * h) → g * p * d ≤ (k * p + (k + h)) * d
    apart g k d p h w = omega arith

    last : (g k : ℕ) → g * P ≤ k * P + (k + H) → g ≤ suc (k * 2)
    last g k h = omega arith

pub mul_fine : (x y : Float) → Whole x → Whole y → in_units x * in_units y ≤ K * U → T (finite (mul B x y))
mul_fine x y p q h =
    subst (λ (z : Float). T (finite z)) (sym (mul_is B x y (negative x) (negative y) (in_units x) (in_units y) U U_pos p q))
    (by_grid (unlike (negative x) (negative y)) (in_units x * in_units y) (U * U)
    (rest (grid B (in_units x * in_units y) (U * U)) (in_units x * in_units y * U) (U * U) K (mul-pos U_pos U_pos) (go (in_units x * in_units y) K U h)
    (units_off 53 (in_units x * in_units y * U) (U * U) (lit< tt) (mul-pos U_pos U_pos))))
  where
    go : (v k u : ℕ) → v ≤ k * u → v * u ≤ k * (u * u)
    go v k u h = let a = mul-le-mul_right u h in omega arith

pub div_fine : (x y : Float) → Whole x → Whole y → 0 < in_units y → in_units x * U ≤ K * in_units y → T (finite (div B x y))
div_fine x y p q d h =
    subst (λ (z : Float). T (finite z)) (sym (div_is B x y (negative x) (negative y) (in_units x) (in_units y) U U_pos d p q))
    (by_grid (unlike (negative x) (negative y)) (in_units x) (in_units y)
    (rest (grid B (in_units x) (in_units y)) (in_units x * U) (in_units y) K d h (units_off 53 (in_units x * U) (in_units y) (lit< tt) d)))
