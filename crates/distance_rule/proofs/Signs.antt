-- A sum of squares is a double with no minus sign, or an infinity with none, or a NaN. Assumes nothing.
use mathlib.Core.Path.{◌≡◌, sym, subst}
use mathlib.Core.Bool.{Bool, true, false, not, cond, true≢false}
use Prim.Native.Nat.{ℕ, zero, suc, ◌+◌, ◌*◌, ◌^◌}
use lib.Dec.{T, ltb}
use lib.Ieee.{Float, nan, inf, fin, binary64, up, down, odd, units, round, sum, add, mul, lt, fits}
use lib.Ieee.Fits.{round_is}
use lib.Ieee.Order.{drop, kept}
use lib.Ieee.Scale.{finite}
use Rattle.meaning.specs.Scalar.{plain}
use Rattle.plane.specs.Vector.{Vector, sub_v}
use Rattle.distance_rule.specs.Squares.{square_of}
use Rattle.distance_rule.proofs.Parts.{dot_fits}

-- no minus sign, not even of an infinity
abbrev pub plus : Float → Bool
plus nan = true
plus (inf s) = not s
plus (fin s m e) = not s

odd_plus : (d q k l : ℕ) → T (plus (odd d false q k l))
unfolding odd
odd_plus d zero k l = tt
odd_plus d (suc q) k l = tt

units_plus : (q k : ℕ) → T (plus (units binary64 false q k))
unfolding units
units_plus q k = go (ltb (q * 2 ^ k) (2 ^ 2098))
  where
    go : (b : Bool) → T (plus (cond b (odd 54 false q k 1074) (inf false)))
    go true = odd_plus 54 q k 1074
    go false = tt

round_plus : (a c : ℕ) → T (plus (round binary64 false a c))
round_plus a c =
    let n = a * 2 ^ 1074 in
    subst (λ (x : Float). T (plus x)) (sym (round_is binary64 false a c)) (units_plus (kept 53 n c) (drop 53 n c))

mul_plus : (x : Float) → T (plus (mul binary64 x x))
unfolding mul
mul_plus nan = tt
mul_plus (inf true) = tt
mul_plus (inf false) = tt
mul_plus (fin true m e) = round_plus (m * up e * (m * up e)) (down e * down e)
mul_plus (fin false m e) = round_plus (m * up e * (m * up e)) (down e * down e)

add_plus : (x y : Float) → T (plus x) → T (plus y) → T (plus (add binary64 x y))
unfolding add sum
add_plus nan y p q = tt
add_plus (inf true) y p q = absurd p
add_plus (inf false) nan p q = tt
add_plus (inf false) (inf true) p q = absurd q
add_plus (inf false) (inf false) p q = tt
add_plus (inf false) (fin t n d) p q = tt
add_plus (fin s m e) nan p q = tt
add_plus (fin s m e) (inf t) p q = q
add_plus (fin true m e) (fin t n d) p q = absurd p
add_plus (fin false m e) (fin true n d) p q = absurd q
add_plus (fin false m e) (fin false n d) p q = round_plus (m * up e * down d + n * up d * down e) (down e * down d)

pub square_plus : (a b : Vector Float) → T (plus (square_of a b))
unfolding square_of
square_plus a b = let d = sub_v plain a b in add_plus (mul binary64 d.x d.x) (mul binary64 d.y d.y) (mul_plus d.x) (mul_plus d.y)

pub square_fits : (a b : Vector Float) → T (fits binary64 (square_of a b))
unfolding square_of
square_fits a b = let d = sub_v plain a b in dot_fits d.x d.y

-- finite, with no minus sign, where it is below something
pub finite_under : (x y : Float) → T (plus x) → lt x y ≡ true → T (finite x)
unfolding lt
finite_under nan y p h = absurd (true≢false (sym h))
finite_under (inf true) y p h = absurd p
finite_under (inf false) nan p h = absurd (true≢false (sym h))
finite_under (inf false) (inf t) p h = absurd (true≢false (sym h))
finite_under (inf false) (fin t n d) p h = absurd (true≢false (sym h))
finite_under (fin s m e) y p h = tt
