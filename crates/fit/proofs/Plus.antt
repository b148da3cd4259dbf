-- Values without a minus sign, a NaN among them: roots are such, and so are their sums and quotients. A sum is not below its first part, quotients
-- by one number are in the order of what is divided, and equal doubles are the same data. Assumes nothing.
use mathlib.Core.Path.{◌≡◌, refl, sym, ap, ◌∙◌, subst}
use mathlib.Core.Bool.{Bool, true, false, not, ◌&&◌, ◌||◌, cond}
use Prim.Native.Nat.{ℕ, zero, suc, ◌+◌, ◌*◌, ◌^◌, ◌≤◌, ◌<◌}
use native.Mathlib.Nat.{le_refl, le_of_eq, mul-pos, mul_assoc, mul_right_comm, eq_of_mul-eq-mul_right, add-mul, mul-le-mul_right}
use native.Mathlib.Omega.{arith}
use lib.IntN.{ℤ, pos}
use lib.Dec.{T, ltb, eqb, eqb-suc-zero}
use borrow.Author.Tests.{ltb-true, eqb-true}
use lib.Ieee.{Float, nan, inf, fin, Format, binary64, prec, emax, low, up, down, odd, units, round, sum, add, div, le, eq, is_nan, fits, of_bits}
use lib.Ieee.Fits.{up_pos, down_pos, round_is}
use lib.Ieee.Bits.{is_true}
use lib.Ieee.Order.{le_of_values, round_mono}
use lib.Ieee.Scale.{finite}
use Rattle.meaning.specs.Scalar.{zero64, one64}
use Rattle.meaning.specs.Root.{in_units, root_squared, four_roots, root_of}
use Rattle.meaning.proofs.Order as Order
use Rattle.meaning.proofs.Tests.{no, by_two, and_left}
use Rattle.root.proofs.Doubles.{same_value, own_value}
use Rattle.solve_laws.proofs.Zeros.{own_round, over_fin, one_over}

abbrev B : Format
B = binary64

-- no minus sign
abbrev pub plus : Float → Bool
plus nan = true
plus (inf s) = not s
plus (fin s m e) = not s

-- ---- what is rounded without a minus sign has none

odd_plus : (d q k l : ℕ) → T (plus (odd d false q k l))
unfolding odd
odd_plus d zero k l = tt
odd_plus d (suc q) k l = tt

units_plus : (q k : ℕ) → T (plus (units B false q k))
unfolding units
units_plus q k = go (ltb (q * 2 ^ k) (2 ^ (low B + suc (emax B))))
  where
    go : (b : Bool) → T (plus (cond b (odd (suc (prec B)) false q k (low B)) (inf false)))
    go true = odd_plus (suc (prec B)) q k (low B)
    go false = tt

round_plus : (a c : ℕ) → T (plus (round B false a c))
round_plus a c = subst (λ (z : Float). T (plus z)) (sym (round_is B false a c)) (units_plus _ _)

pub root-plus : (x : Float) → T (plus (root_of x))
unfolding root_of
root-plus nan = tt
root-plus (inf true) = tt
root-plus (inf false) = tt
root-plus (fin true m e) = tt
root-plus (fin false zero e) = tt
root-plus (fin false (suc m) e) = round_plus (four_roots (root_squared (fin false (suc m) e))) (4 * 2 ^ 1074)

pub add_plus : (x y : Float) → T (plus x) → T (plus y) → T (plus (add B x y))
unfolding add sum
add_plus nan y h g = tt
add_plus (inf true) y h g = absurd h
add_plus (inf false) nan h g = tt
add_plus (inf false) (inf true) h g = absurd g
add_plus (inf false) (inf false) h g = tt
add_plus (inf false) (fin t n d) h g = tt
add_plus (fin true m e) y h g = absurd h
add_plus (fin false m e) nan h g = tt
add_plus (fin false m e) (inf t) h g = g
add_plus (fin false m e) (fin true n d) h g = absurd g
add_plus (fin false m e) (fin false n d) h g = round_plus (m * up e * down d + n * up d * down e) (down e * down d)

-- a quotient of numbers, by one that is not zero
quotient_is : (m q : ℕ) (e f : ℤ) → div B (fin false m e) (fin false (suc q) f) ≡ round B false (m * up e * down f) (suc q * up f * down e)
unfolding div
quotient_is m q e f = rw (eqb-suc-zero q)

pub div_plus : (x y : Float) → T (plus x) → T (plus y) → T (plus (div B x y))
unfolding div
div_plus nan y h g = tt
div_plus (inf true) y h g = absurd h
div_plus (inf false) nan h g = tt
div_plus (inf false) (inf t) h g = tt
div_plus (inf false) (fin true n d) h g = absurd g
div_plus (inf false) (fin false n d) h g = tt
div_plus (fin true m e) y h g = absurd h
div_plus (fin false m e) nan h g = tt
div_plus (fin false m e) (inf true) h g = absurd g
div_plus (fin false m e) (inf false) h g = tt
div_plus (fin false m e) (fin true n d) h g = absurd g
div_plus (fin false zero e) (fin false zero d) h g = tt
div_plus (fin false (suc m) e) (fin false zero d) h g = rw (eqb-suc-zero m) tt
div_plus (fin false m e) (fin false (suc q) f) h g = rw (quotient_is m q e f) (round_plus (m * up e * down f) (suc q * up f * down e))

-- ---- the order

pub zero_least : (x : Float) → T (plus x) → is_nan x ≡ false → le zero64 x ≡ true
unfolding le is_nan of_bits
zero_least nan h n = no (sym n)
zero_least (inf true) h n = absurd h
zero_least (inf false) h n = refl
zero_least (fin true m e) h n = absurd h
zero_least (fin false m e) h n =
    is_true (le (fin false 0 (pos 0)) (fin false m e))
    (le_of_values (fin false 0 (pos 0)) (fin false m e) 0 1 (m * up e) (down e) (omega arith) (down_pos e) (refl, refl) (refl, refl) (omega arith))

-- a sum is not below its first part
pub sum_not_below : (s d : Float) → T (plus s) → T (plus d) → T (fits B s) → is_nan (add B s d) ≡ false → le s (add B s d) ≡ true
unfolding add sum is_nan
sum_not_below nan d p q f n = no (sym n)
sum_not_below (inf true) d p q f n = absurd p
sum_not_below (inf false) nan p q f n = no (sym n)
sum_not_below (inf false) (inf true) p q f n = absurd q
sum_not_below (inf false) (inf false) p q f n = unfold le in refl
sum_not_below (inf false) (fin t m e) p q f n = unfold le in refl
sum_not_below (fin true m e) d p q f n = absurd p
sum_not_below (fin false m e) nan p q f n = no (sym n)
sum_not_below (fin false m e) (inf true) p q f n = absurd q
sum_not_below (fin false m e) (inf false) p q f n = unfold le in refl
sum_not_below (fin false m e) (fin true k d) p q f n = absurd q
sum_not_below (fin false m e) (fin false k d) p q f n =
    let a = m * up e in
    let x = fin false m e in
    let own = round B false a (down e) in
    let whole = round B false (a * down d + k * up d * down e) (down e * down d) in
    Order.le_trans x own whole
    (is_true (le x own) (le_of_values x own a (down e) a (down e) (down_pos e) (down_pos e) (refl, refl) (own_round false m e f) (le_refl (a * down e))))
    (is_true (le own whole)
    (round_mono B a (down e) (a * down d + k * up d * down e) (down e * down d) (down_pos e) (mul-pos (down_pos e) (down_pos d))
    (grows a (k * up d) (down e) (down d))))
  where
    grows : (a b e d : ℕ) → a * (e * d) ≤ (a * d + b * e) * e
    grows a b e d = omega (arith, add-mul (a * d) (b * e) e, mul_assoc a e d, mul_right_comm a e d)

-- ---- quotients

pub finite_over : (x y : Float) → finite (div B x y) ≡ true → finite x ≡ true
unfolding div
finite_over nan y h = h
finite_over (inf s) nan h = h
finite_over (inf s) (inf t) h = h
finite_over (inf s) (fin t n d) h = h
finite_over (fin s m e) y h = refl

pub over_no_nan : (x y : Float) → finite (div B x y) ≡ true → is_nan y ≡ false
unfolding div is_nan
over_no_nan nan y h = no h
over_no_nan (inf s) nan h = no h
over_no_nan (fin s m e) nan h = no h
over_no_nan (inf s) (inf t) h = refl
over_no_nan (fin s m e) (inf t) h = refl
over_no_nan (inf s) (fin t n d) h = refl
over_no_nan (fin s m e) (fin t n d) h = refl

-- ≤ of two numbers is that of their fractions
at_most : (a b : ℕ) → ltb a b || (eqb a b && true) ≡ true → a ≤ b
at_most a b h = by_two (ltb a b) (λ e. below (ltb-true a b e)) (λ e. le_of_eq (eqb-true a b (and_left (eqb a b) true (rw e at h))))
  where
    below : a < b → a ≤ b
    below l = omega arith

crossed : (m n : ℕ) (e d : ℤ) → le (fin false m e) (fin false n d) ≡ true → m * up e * down d ≤ n * up d * down e
unfolding le
crossed m n e d h = at_most (m * up e * down d) (n * up d * down e) h

-- quotients by one number are in the order of what is divided
pub over-in_order : (s z w : Float) → T (plus s) → T (plus z) → T (plus w) → finite (div B s w) ≡ true → finite (div B z w) ≡ true
    → le s z ≡ true → le (div B s w) (div B z w) ≡ true
over-in_order nan z w a b c h g l = no (finite_over nan w h)
over-in_order (inf s) z w a b c h g l = no (finite_over (inf s) w h)
over-in_order (fin true m e) z w a b c h g l = absurd a
over-in_order (fin false m e) nan w a b c h g l = no (finite_over nan w g)
over-in_order (fin false m e) (inf t) w a b c h g l = no (finite_over (inf t) w g)
over-in_order (fin false m e) (fin true n d) w a b c h g l = absurd b
over-in_order (fin false m e) (fin false n d) nan a b c h g l = no (unfold div in h)
over-in_order (fin false m e) (fin false n d) (inf true) a b c h g l = absurd c
over-in_order (fin false m e) (fin false n d) (inf false) a b c h g l = unfold div le in refl
over-in_order (fin false m e) (fin false n d) (fin true k f) a b c h g l = absurd c
over-in_order (fin false m e) (fin false n d) (fin false zero f) a b c h g l = no (sym (over_fin (fin false m e) false f) ∙ h)
over-in_order (fin false m e) (fin false n d) (fin false (suc q) f) a b c h g l =
    let t = suc q * up f in
    let pos-t : 0 < t = mul-pos (omega arith) (up_pos f) in
    rw (quotient_is m q e f, quotient_is n q d f)
    (is_true (le (round B false (m * up e * down f) (t * down e)) (round B false (n * up d * down f) (t * down d)))
    (round_mono B (m * up e * down f) (t * down e) (n * up d * down f) (t * down d) (mul-pos pos-t (down_pos e)) (mul-pos pos-t (down_pos d))
    (scaled (m * up e) (n * up d) (down e) (down d) (down f) t (crossed m n e d l))))
  where
    scaled : (a b e d f t : ℕ) → a * d ≤ b * e → a * f * (t * d) ≤ b * f * (t * e)
    scaled a b e d f t h = let k = mul-le-mul_right (f * t) h in omega (arith, k)

one_is : one64 ≡ fin false 1 (pos 0)
unfolding of_bits
one_is = refl

-- and at most 1 where what is divided is not above it
pub over_at_most_one : (s w : Float) → T (plus s) → T (plus w) → finite (div B s w) ≡ true → le s w ≡ true → le (div B s w) one64 ≡ true
over_at_most_one nan w a c h l = no (finite_over nan w h)
over_at_most_one (inf s) w a c h l = no (finite_over (inf s) w h)
over_at_most_one (fin true m e) w a c h l = absurd a
over_at_most_one (fin false m e) nan a c h l = no (unfold div in h)
over_at_most_one (fin false m e) (inf true) a c h l = absurd c
over_at_most_one (fin false m e) (inf false) a c h l = unfold div le of_bits in refl
over_at_most_one (fin false m e) (fin true k f) a c h l = absurd c
over_at_most_one (fin false m e) (fin false zero f) a c h l = no (sym (over_fin (fin false m e) false f) ∙ h)
over_at_most_one (fin false m e) (fin false (suc q) f) a c h l =
    let one = one_over false q f in
    subst (λ (z : Float). le (div B (fin false m e) (fin false (suc q) f)) z ≡ true) one
    (over-in_order (fin false m e) (fin false (suc q) f) (fin false (suc q) f) a c c h (ap finite (one ∙ one_is)) l)

-- ---- equal doubles are the same data

pub equal_same : (x y : Float) → T (fits B x) → T (fits B y) → T (plus x) → T (plus y) → eq x y ≡ true → x ≡ y
unfolding eq
equal_same nan y f g p q h = no h
equal_same (inf true) y f g p q h = absurd p
equal_same (inf false) nan f g p q h = no h
equal_same (inf false) (inf true) f g p q h = absurd q
equal_same (inf false) (inf false) f g p q h = refl
equal_same (inf false) (fin t n d) f g p q h = no h
equal_same (fin true m e) y f g p q h = absurd p
equal_same (fin false m e) nan f g p q h = no h
equal_same (fin false m e) (inf t) f g p q h = no h
equal_same (fin false m e) (fin true n d) f g p q h = absurd q
equal_same (fin false m e) (fin false n d) f g p q h =
    let x = fin false m e in
    let v = own_value x f tt in
    let same : m * up e * down d ≡ n * up d * down e = eqb-true _ _ (and_left (eqb (m * up e * down d) (n * up d * down e)) true h) in
    same_value x (fin false n d) (in_units x) f g v (refl, carried (m * up e) (n * up d) (down e) (down d) (in_units x) (down_pos e) same v.1)
  where
    carried : (a b e d u : ℕ) → 0 < e → a * d ≡ b * e → a * 2 ^ 1074 ≡ u * e → b * 2 ^ 1074 ≡ u * d
    carried a b e d u E s v =
        eq_of_mul-eq-mul_right e E (b * 2 ^ 1074) (u * d)
        (mul_right_comm b (2 ^ 1074) e ∙ ap (λ (z : ℕ). z * 2 ^ 1074) (sym s) ∙ mul_right_comm a d (2 ^ 1074) ∙ ap (λ (z : ℕ). z * d) v
        ∙ mul_right_comm u e d)
