-- What else a caller may use of the root, beside `proofs/Range.antt`: it is exact where x is the square of a double, and it grows with x.
-- Assumes nothing.
use mathlib.Core.Path.{◌≡◌, refl, sym, subst}
use mathlib.Core.Bool.{true, false, not}
use Prim.Native.Nat.{ℕ, zero, suc, ◌*◌, ◌^◌, ◌≤◌}
use native.Mathlib.Nat.{zero-lt-suc}
use lib.IntN.{ℤ}
use lib.Dec.{T, ltb, lt→ltb}
use lib.Ieee.{Float, nan, inf, fin, binary64, is_nan, fits, le}
use lib.Ieee.Positive.{positive, above, above_of_le, values_of_le}
use Rattle.meaning.specs.Root.{in_units, root_squared, unsigned, four_roots, root_of}
use Rattle.root.proofs.FourRoots.{grows}
use Rattle.root.proofs.NoNan.{upper_no_nan}
use Rattle.root.proofs.Range.{rounds_in_order, root_not_below, root_no_nan}
use Rattle.root.proofs.Doubles.{own_value}
use Rattle.root.proofs.Nearest.{exact_nearest, root_nearest, nearest_unique}

-- the exact root, where it is a double: both sides are the square of the root in units
pub root_exact : (x r : Float) → T (fits binary64 x) → T (unsigned x) → T (fits binary64 r) → T (unsigned r)
    → in_units r * in_units r ≡ root_squared x → root_of x ≡ r
root_exact x r f c g d e = nearest_unique x (root_of x) r (root_nearest x f c) (exact_nearest x r g d e)

-- ---- the order

under_infinity : (z : Float) → T (not (is_nan z)) → T (le z (inf false))
unfolding le is_nan
under_infinity nan h = absurd h
under_infinity (inf true) h = tt
under_infinity (inf false) h = tt
under_infinity (fin s m e) h = tt

above_infinity : (y : Float) → T (le (inf false) y) → y ≡ inf false
unfolding le
above_infinity nan l = absurd l
above_infinity (inf true) l = absurd l
above_infinity (inf false) l = refl
above_infinity (fin s m e) l = absurd l

is_positive : (m : ℕ) → T (ltb 0 (suc m))
is_positive m = lt→ltb 0 (suc m) (zero-lt-suc m)

root_squared_mono : (x y : Float) → T (fits binary64 x) → T (fits binary64 y) → T (positive x) → T (positive y) → T (unsigned x) → T (unsigned y)
    → T (le x y) → root_squared x ≤ root_squared y
unfolding root_squared
root_squared_mono x y f g p q c d l = values_of_le x y (in_units x) (2 ^ 1074) (in_units y) (2 ^ 1074) p q (own_value x f c) (own_value y g d) l

-- y is above zero since x is
positive_mono : (m : ℕ) (e : ℤ) (y : Float) → T (fits binary64 (fin false (suc m) e)) → T (fits binary64 y) → T (above y)
    → T (le (fin false (suc m) e) y) → T (le (root_of (fin false (suc m) e)) (root_of y))
unfolding root_of is_nan
positive_mono m e nan f g a l = absurd a
positive_mono m e (inf true) f g a l = absurd a
positive_mono m e (inf false) f g a l = under_infinity (root_of (fin false (suc m) e)) (root_no_nan (fin false (suc m) e) tt)
positive_mono m e (fin true n k) f g a l = absurd a
positive_mono m e (fin false zero k) f g a l = absurd a
positive_mono m e (fin false (suc n) k) f g a l =
    let x = fin false (suc m) e in
    let y = fin false (suc n) k in
    rounds_in_order (four_roots (root_squared x)) (four_roots (root_squared y))
    (grows (root_squared x) (root_squared y) (root_squared_mono x y f g (is_positive m) (is_positive n) tt tt l))

pub root_mono : (x y : Float) → T (fits binary64 x) → T (fits binary64 y) → T (le x y) → T (le (root_of x) (root_of y))
unfolding root_of le
root_mono nan y f g l = absurd l
root_mono (inf true) y f g l = root_not_below y (upper_no_nan (inf true) y l)
root_mono (inf false) y f g l = subst (λ (z : Float). T (le (inf false) (root_of z))) (sym (above_infinity y l)) tt
root_mono (fin true m e) y f g l = root_not_below y (upper_no_nan (fin true m e) y l)
root_mono (fin false zero e) y f g l = root_not_below y (upper_no_nan (fin false zero e) y l)
root_mono (fin false (suc m) e) y f g l = positive_mono m e y f g (above_of_le (fin false (suc m) e) y (is_positive m) l) l
