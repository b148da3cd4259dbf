-- What the rule computes on its way, in units: the scaled coordinates, their squares, the sum. None of them overflows. Assumes nothing.
use mathlib.Core.Path.{◌≡◌, refl, sym, ap, ◌∙◌, subst}
use mathlib.Core.Bool.{Bool, true, false}
use Prim.Native.Nat.{ℕ, zero, suc, ◌+◌, ◌*◌, ◌^◌, ◌≤◌, ◌<◌}
use native.Mathlib.Nat.{le_trans, le_of_eq, lt_of_le_of_lt, add-le-add, mul_comm, mul_assoc, mul-le-mul, mul-le-mul_right, pow-succ'}
use native.Mathlib.Omega.{arith}
use lib.IntN.{ℤ, pos}
use lib.Dec.{T}
use lib.Pow.{pow_pos, pow-lt}
use lib.Ieee.{Float, nan, inf, fin, binary64, neg, add, sub, mul, sum, size, round, fits}
use lib.Ieee.Fits.{add-fits, round-fits}
use lib.Ieee.Exact.{HasValue}
use lib.Ieee.Scale.{grid, finite, round_val, round_under}
use Rattle.meaning.specs.Scalar.{plain}
use Rattle.meaning.specs.Root.{in_units, unsigned, root_of}
use Rattle.meaning.proofs.Values.{U_pos, mul_is, add_is, add_finite}
use Rattle.plane.specs.Vector.{dot_v}
use Rattle.root.proofs.Doubles.{own_value, own_digits, units_below, same_value, unsigned_of}
use Rattle.root.proofs.Nearest.{root_nearest}
use Rattle.distance_rule.specs.Distance.{scaled_down}
use Rattle.distance_rule.proofs.Grids.{grid_most, Held, added}
use Rattle.distance_rule.proofs.Sums.{square, down, grid_exact}

-- ---- a double of either sign, by its size

size_fits : (s : Bool) (m : ℕ) (e : ℤ) → T (fits binary64 (fin s m e)) → T (fits binary64 (fin false m e))
unfolding fits
size_fits s zero e f = f
size_fits s (suc m) e f = f

abbrev sign : Float → Bool
sign nan = false
sign (inf s) = s
sign (fin s m e) = s

value : (x : Float) → T (fits binary64 x) → T (finite x) → HasValue x (sign x) (in_units x) (2 ^ 1074)
unfolding in_units
value nan f h = absurd h
value (inf s) f h = absurd h
value (fin s m e) f h = (refl, (own_value (fin false m e) (size_fits s m e f) tt).1)

pub held : (x : Float) → T (fits binary64 x) → T (finite x) → Held (in_units x)
unfolding in_units
held nan f h = absurd h
held (inf s) f h = absurd h
held (fin s m e) f h = let d = own_digits (fin false m e) (size_fits s m e f) tt in record { digits = d.0; places = d.1; is = d.2; few = d.3 }

-- ---- the sum of two squares

abbrev pub dot_of : Float → Float → Float
dot_of x y = dot_v plain (record { x = x; y = y }) (record { x = x; y = y })

pub dot_fits : (x y : Float) → T (fits binary64 (dot_of x y))
dot_fits x y = add-fits binary64 (mul binary64 x x) (mul binary64 y y)

-- of any two differences
pub sub-fits : (x y : Float) → T (fits binary64 (sub binary64 x y))
unfolding sub
sub-fits x y = add-fits binary64 x (neg y)

square_is : (x : Float) (s : Bool) (a : ℕ) → HasValue x s a (2 ^ 1074) → mul binary64 x x ≡ round binary64 false (a * a) (2 ^ 1074 * 2 ^ 1074)
square_is x true a h = mul_is binary64 x x true true a a (2 ^ 1074) U_pos h h
square_is x false a h = mul_is binary64 x x false false a a (2 ^ 1074) U_pos h h

plus_is : (x y : Float) (a b : ℕ) → HasValue x false a (2 ^ 1074) → HasValue y false b (2 ^ 1074) → add binary64 x y ≡ round binary64 false (a + b) (2 ^ 1074)
unfolding sum
plus_is x y a b p q = add_is binary64 x y false false a b (2 ^ 1074) U_pos p q

-- a rounding that does not overflow
rounded : {x : Float} (a c : ℕ) → x ≡ round binary64 false a c → grid binary64 a c < 2 ^ 2098 → HasValue x false (grid binary64 a c) (2 ^ 1074)
rounded a c e h = subst (λ (z : Float). HasValue z false (grid binary64 a c) (2 ^ 1074)) (sym e) (round_val binary64 a c h)

under : {x : Float} (a c : ℕ) → x ≡ round binary64 false a c → T (finite x) → grid binary64 a c < 2 ^ 2098
under a c e h = round_under binary64 a c (subst (λ (z : Float). T (finite z)) e h)

module _ (x y : Float) (s t : Bool) (a b : ℕ) (p : HasValue x s a (2 ^ 1074)) (q : HasValue y t b (2 ^ 1074)) where
  dot_is : square a < 2 ^ 2098 → square b < 2 ^ 2098 → dot_of x y ≡ round binary64 false (square a + square b) (2 ^ 1074)
  dot_is f g =
      plus_is (mul binary64 x x) (mul binary64 y y) (square a) (square b) (rounded (a * a) (2 ^ 1074 * 2 ^ 1074) (square_is x s a p) f)
      (rounded (b * b) (2 ^ 1074 * 2 ^ 1074) (square_is y t b q) g)

  dot_value : square a < 2 ^ 2098 → square b < 2 ^ 2098 → added (square a) (square b) < 2 ^ 2098 → HasValue (dot_of x y) false (added (square a) (square b)) (2 ^ 1074)
  dot_value f g h = rounded (square a + square b) (2 ^ 1074) (dot_is f g) h

  dot_finite : T (finite (dot_of x y)) → HasValue (dot_of x y) false (added (square a) (square b)) (2 ^ 1074)
  dot_finite h =
      let k = add_finite binary64 (mul binary64 x x) (mul binary64 y y) h in
      let f = under (a * a) (2 ^ 1074 * 2 ^ 1074) (square_is x s a p) k.0 in
      let g = under (b * b) (2 ^ 1074 * 2 ^ 1074) (square_is y t b q) k.1 in
      dot_value f g (under (square a + square b) (2 ^ 1074) (dot_is f g) h)

no_square : square 0 ≡ 0
unfolding size
no_square = refl

nothing : added (square 0) (square 0) ≡ 0
unfolding size
nothing = refl

zero_fits : T (fits binary64 (fin false 0 (pos 0)))
unfolding fits
zero_fits = tt

-- of two doubles
pub own_dot : (x y : Float) → T (fits binary64 x) → T (fits binary64 y) → T (finite x) → T (finite y) → T (finite (dot_of x y))
    → HasValue (dot_of x y) false (added (square (in_units x)) (square (in_units y))) (2 ^ 1074)
own_dot x y f g h k r = dot_finite x y (sign x) (sign y) (in_units x) (in_units y) (value x f h) (value y g k) r

-- of two zeros
pub no_sum : (x y : Float) → T (fits binary64 x) → T (fits binary64 y) → T (finite x) → T (finite y) → in_units x ≡ 0 → in_units y ≡ 0 → dot_of x y ≡ fin false 0 (pos 0)
no_sum x y f g h k p q =
    let v = dot_value x y (sign x) (sign y) 0 0 (subst (λ (n : ℕ). HasValue x (sign x) n (2 ^ 1074)) p (value x f h)) (subst (λ (n : ℕ). HasValue y (sign y) n (2 ^ 1074)) q (value y g k)) in
    same_value (dot_of x y) (fin false 0 (pos 0)) 0 (dot_fits x y) zero_fits (subst (λ (n : ℕ). HasValue (dot_of x y) false n (2 ^ 1074)) nothing (v (under_overflow no_square) (under_overflow no_square) (under_overflow nothing))) (refl, refl)
  where
    under_overflow : {n : ℕ} → n ≡ 0 → n < 2 ^ 2098
    under_overflow e = lt_of_le_of_lt (le_of_eq e) (pow_pos 2098)

-- ---- scaled

below : (n k : ℕ) → n ≤ 2 ^ k → k ≤ 2000 → n < 2 ^ 2098
below n k h l = lt_of_le_of_lt h (pow-lt {i = k} {j = 2098} (omega arith))

module _ (j : ℕ) where
  down_most : (u : ℕ) → u ≤ 2 ^ suc j → down j u ≤ 2 ^ 1075
  down_most u h =
      grid_most u (2 ^ j) 1075 (pow_pos j)
      (le_trans (mul-le-mul_right (2 ^ 1074) h) (le_of_eq (ap (λ (x : ℕ). x * 2 ^ 1074) (pow-succ' 2 j) ∙ mul_assoc 2 (2 ^ j) (2 ^ 1074) ∙ ap (λ (x : ℕ). 2 * x) (mul_comm (2 ^ j) (2 ^ 1074)) ∙ sym (mul_assoc 2 (2 ^ 1074) (2 ^ j)))))

  square_most : (u : ℕ) → u ≤ 2 ^ suc j → square (down j u) ≤ 2 ^ 1076
  square_most u h = let g = down_most u h in grid_most (down j u * down j u) (2 ^ 1074 * 2 ^ 1074) 1076 (pow_pos 2148) (mul-le-mul_right (2 ^ 1074) (mul-le-mul g g))

  pub scaled_value : (u : ℕ) → u ≤ 2 ^ suc j → HasValue (scaled_down j u) false (down j u) (2 ^ 1074)
  scaled_value u h = rounded u (2 ^ j) refl (below (down j u) 1075 (down_most u h) (omega arith))

  module _ (u v : ℕ) (h : u ≤ 2 ^ suc j) (k : v ≤ 2 ^ suc j) where
    -- both are at most 2
    pub scaled_sum_most : added (square (down j u)) (square (down j v)) ≤ 2 ^ 1077
    scaled_sum_most =
        grid_most (square (down j u) + square (down j v)) (2 ^ 1074) 1077 (pow_pos 1074) (mul-le-mul_right (2 ^ 1074) (add-le-add (square_most u h) (square_most v k)))

    pub scaled_dot : HasValue (dot_of (scaled_down j u) (scaled_down j v)) false (added (square (down j u)) (square (down j v))) (2 ^ 1074)
    scaled_dot =
        dot_value (scaled_down j u) (scaled_down j v) false false (down j u) (down j v) (scaled_value u h) (scaled_value v k)
        (below _ 1076 (square_most u h) (omega arith)) (below _ 1076 (square_most v k) (omega arith)) (below _ 1077 scaled_sum_most (omega arith))

-- ---- the root

-- a double without a minus sign, rounded again
pub round_own : (r : Float) → T (fits binary64 r) → T (unsigned r) → round binary64 false (in_units r) (2 ^ 1074) ≡ r
round_own r f c =
    let h = held-unsigned in
    let e : grid binary64 (in_units r) (2 ^ 1074) ≡ in_units r = ap (λ (n : ℕ). grid binary64 n (2 ^ 1074)) h.is ∙ grid_exact h.digits h.places h.few ∙ sym h.is in
    same_value (round binary64 false (in_units r) (2 ^ 1074)) r (in_units r) (round-fits binary64 false (in_units r) (2 ^ 1074)) f
    (subst (λ (n : ℕ). HasValue (round binary64 false (in_units r) (2 ^ 1074)) false n (2 ^ 1074)) e (round_val binary64 (in_units r) (2 ^ 1074) (lt_of_le_of_lt (le_of_eq e) (units_below r f c))))
    (own_value r f c)
  where
    held-unsigned : Held (in_units r)
    held-unsigned = let d = own_digits r f c in record { digits = d.0; places = d.1; is = d.2; few = d.3 }

-- the root of a double without a minus sign is one
pub root-unsigned : (s : Float) (v : ℕ) → T (fits binary64 s) → HasValue s false v (2 ^ 1074) → T (unsigned (root_of s))
root-unsigned s v f h = (root_nearest s f (unsigned_of s v h)).number
