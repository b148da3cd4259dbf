-- The squares that tell their distance: from 2 ^ -967 on a distance is the root of its square, as long as that is finite, and below that no distance exceeds
-- the root of 2 ^ -967. Assumes nothing.
use mathlib.Core.Path.{◌≡◌, refl, sym, ap, ◌∙◌, subst}
use mathlib.Core.Bool.{true, false}
use mathlib.Core.Logic.{inl, inr}
use Prim.Native.Nat.{ℕ, suc, ◌+◌, ◌-◌, ◌*◌, ◌^◌, ◌≤◌, ◌<◌, max, zero-le}
use native.Mathlib.Nat.{le_trans, le_of_eq, le_of_lt, lt_of_lt_of_le, lt_of_not-le, not-le_of_lt, eq-zero-or-pos, add-le-add, mul-le-mul, mul-le-mul_right, le_of_mul-le-mul_right, le-max_left, le-max_right}
use native.Mathlib.Decide.{dec_le}
use native.Mathlib.Omega.{arith}
use lib.Dec.{T, lit<, lit≤}
use lib.Pow.{pow_pos, pow_mono}
use lib.Ieee.{Float, nan, inf, fin, binary64, round, lt, le, size, of_bits, fits}
use lib.Ieee.Bits.{of_bits-fits}
use lib.Ieee.Digits.{size-le}
use lib.Ieee.Exact.{HasValue}
use lib.Ieee.Order.{le_of_values, round_mono}
use lib.Ieee.Positive.{positive, above, positive_of_value, above_of_le, values_of_le}
use lib.Ieee.Scale.{finite}
use Rattle.meaning.specs.Scalar.{plain}
use Rattle.meaning.specs.Root.{in_units, unsigned, root_of}
use Rattle.meaning.proofs.Order.{lt_le}
use Rattle.plane.specs.Vector.{Vector, sub_v}
use Rattle.root.proofs.Squares.{root_lt}
use Rattle.root.proofs.Patterns.{pattern_value}
use Rattle.root.proofs.Doubles.{own_value}
use Rattle.root.proofs.Range.{root-fits}
use Rattle.root.proofs.Laws.{root_mono}
use Rattle.distance_rule.specs.Distance.{leading_place, scaled_down, scaled_up, length_of, distance_of}
use Rattle.distance_rule.specs.Squares.{square_of, plain_from}
use Rattle.distance_rule.proofs.Grids.{grid_most, added}
use Rattle.distance_rule.proofs.Sums.{square}
use Rattle.distance_rule.proofs.Parts.{dot_of, dot_fits, sub-fits, own_dot, scaled_dot, scaled_sum_most, root-unsigned}
use Rattle.distance_rule.proofs.Signs.{square_plus, square_fits, finite_under}
use Rattle.distance_rule.proofs.Same.{below_next, larger, parts_finite, finite_distance, same_as_before}

-- ---- the order of doubles is that of their units

pub units_order : (x y : Float) (a b : ℕ) → HasValue x false a (2 ^ 1074) → HasValue y false b (2 ^ 1074) → T (le x y) → a ≤ b
units_order x y a b p q h = elim (eq-zero-or-pos a) [
  | inl z ↦ le_trans (le_of_eq z) zero-le
  | inr k ↦
      let x+ = positive_of_value x a (2 ^ 1074) p k in
      le_of_mul-le-mul_right (values_of_le x y a (2 ^ 1074) b (2 ^ 1074) x+ (finite_above y b q (above_of_le x y x+ h)) p q h) (pow_pos 1074)
]
  where
    finite_above : (y : Float) (b : ℕ) → HasValue y false b (2 ^ 1074) → T (above y) → T (positive y)
    finite_above nan b q h = absurd q
    finite_above (inf s) b q h = absurd q
    finite_above (fin true n d) b q h = absurd h
    finite_above (fin false n d) b q h = h

-- ---- the least square that tells its distance

plain_from-value : HasValue plain_from false (2 ^ 107) (2 ^ 1074)
plain_from-value = pattern_value 0x0380_0000_0000_0000 (lit< tt)

pub plain_from-fits : T (fits binary64 plain_from)
plain_from-fits = of_bits-fits binary64 0x0380_0000_0000_0000

-- the root of 8, which no scaled sum exceeds, and that times 2 ^ 589 units
root-eight : root_of (of_bits binary64 0x4020_0000_0000_0000) ≡ of_bits binary64 0x4006_a09e_667f_3bcd
unfolding root_of of_bits
root-eight = refl

root_least : root_of plain_from ≡ of_bits binary64 0x21b6_a09e_667f_3bcd
unfolding root_of of_bits
root_least = refl

up-eight : scaled_up 589 (of_bits binary64 0x4006_a09e_667f_3bcd) ≡ of_bits binary64 0x21b6_a09e_667f_3bcd
unfolding round of_bits in_units
up-eight = refl

at_edge : scaled_up 589 (root_of (of_bits binary64 0x4020_0000_0000_0000)) ≡ root_of plain_from
at_edge = ap (scaled_up 589) root-eight ∙ up-eight ∙ sym root_least

-- the differences have squares that do not vanish
module _ (a b : Vector Float) where
  abbrev dx : Float
  dx = (sub_v plain a b).x

  abbrev dy : Float
  dy = (sub_v plain a b).y

  module _ (h : T (finite (square_of a b))) where
    parts : T (finite (sub_v plain a b).x) × T (finite (sub_v plain a b).y)
    unfolding square_of
    parts = parts_finite dx dy h

    sum_value : HasValue (square_of a b) false (added (square (in_units (sub_v plain a b).x)) (square (in_units (sub_v plain a b).y))) (2 ^ 1074)
    unfolding square_of
    sum_value = own_dot dx dy (sub-fits a.x b.x) (sub-fits a.y b.y) parts.0 parts.1 h

    -- those of smaller differences are smaller
    square_most : (n : ℕ) → n ≤ larger a b → larger a b * larger a b < 2 ^ 1179 → square n ≤ 2 ^ 105
    square_most n g l = grid_most (n * n) (2 ^ 1074 * 2 ^ 1074) 105 (pow_pos 2148) (mul-le-mul_right (2 ^ 1074) (le_trans (mul-le-mul g g) (le_of_lt l)))

    large_enough : T (le plain_from (square_of a b)) → 2 ^ 1179 ≤ larger a b * larger a b
    large_enough g = go (dec_le (2 ^ 1179) (larger a b * larger a b))
      where
        go : Dec (2 ^ 1179 ≤ larger a b * larger a b) → 2 ^ 1179 ≤ larger a b * larger a b
        go (yes k) = k
        go (no f) =
            let l = lt_of_not-le f in
            let u = square_most (in_units dx) (le-max_left (in_units dx) (in_units dy)) l in
            let v = square_most (in_units dy) (le-max_right (in_units dx) (in_units dy)) l in
            let s : added (square (in_units dx)) (square (in_units dy)) ≤ 2 ^ 106 =
            grid_most (square (in_units dx) + square (in_units dy)) (2 ^ 1074) 106 (pow_pos 1074) (mul-le-mul_right (2 ^ 1074) (add-le-add u v))
            in
            absurd (not-le_of_lt (lit< {m = 2 ^ 106} {n = 2 ^ 107} tt) (le_trans (units_order plain_from (square_of a b) (2 ^ 107) _ plain_from-value sum_value g) s))

  -- ---- from there on the distance is the root

  module _ (g : le plain_from (square_of a b) ≡ true) (l : lt (square_of a b) (inf false) ≡ true) where
    sum_finite : T (finite (square_of a b))
    sum_finite = finite_under (square_of a b) (inf false) (square_plus a b) l

    pub root_of_square : distance_of a b ≡ root_of (square_of a b)
    root_of_square = same_as_before a b sum_finite (large_enough sum_finite (subst T (sym g) tt))

    pub finite_beyond : finite (distance_of a b) ≡ true
    finite_beyond =
        ap finite root_of_square ∙ unsigned_finite (root_of (square_of a b)) (root-unsigned (square_of a b) _ (square_fits a b) (sum_value sum_finite))
      where
        unsigned_finite : (x : Float) → T (unsigned x) → finite x ≡ true
        unsigned_finite nan h = absurd h
        unsigned_finite (inf s) h = absurd h
        unsigned_finite (fin s m e) h = refl

  -- ---- below it the distance is at most the root of the least square

  module _ (h : lt (square_of a b) plain_from ≡ true) where
    under_finite : T (finite (square_of a b))
    under_finite = finite_under (square_of a b) plain_from (square_plus a b) h

    short : larger a b * larger a b < 2 ^ 1179 → T (le (distance_of a b) (root_of plain_from))
    unfolding length_of
    short l =
        let f = parts under_finite in
        let u = in_units dx in
        let v = in_units dy in
        let n = max u v in
        let j = leading_place n in
        let few : size n ≤ 590 = size-le n 590 (root_lt n (2 ^ 590) (lt_of_lt_of_le l (lit≤ tt))) in
        let top : n ≤ 2 ^ suc j = le_of_lt (below_next n) in
        let hu : u ≤ 2 ^ suc j = le_trans (le-max_left u v) top in
        let hv : v ≤ 2 ^ suc j = le_trans (le-max_right u v) top in
        let s = dot_of (scaled_down j u) (scaled_down j v) in
        let eight = of_bits binary64 0x4020_0000_0000_0000 in
        let value = scaled_dot j u v hu hv in
        let eight-value : HasValue eight false (2 ^ 1077) (2 ^ 1074) = pattern_value 0x4020_0000_0000_0000 (lit< tt) in
        let most : T (le s eight) = le_of_values s eight _ (2 ^ 1074) (2 ^ 1077) (2 ^ 1074) (pow_pos 1074) (pow_pos 1074) value eight-value (mul-le-mul_right (2 ^ 1074) (scaled_sum_most j u v hu hv)) in
        let fs = dot_fits (scaled_down j u) (scaled_down j v) in
        let fe = of_bits-fits binary64 0x4020_0000_0000_0000 in
        let r : in_units (root_of s) ≤ in_units (root_of eight) =
        units_order (root_of s) (root_of eight) _ _ (own_value (root_of s) (root-fits s) (root-unsigned s _ fs value)) (own_value (root_of eight) (root-fits eight) (root-unsigned eight _ fe eight-value))
        (root_mono s eight fs fe most)
        in
        subst (λ (x : Float). T (le x (root_of plain_from))) (sym (finite_distance a b f.0 f.1))
        (subst (λ (x : Float). T (le (scaled_up j (root_of s)) x)) at_edge
        (round_mono binary64 (in_units (root_of s) * 2 ^ j) (2 ^ 1074 * 2 ^ 1074) (in_units (root_of eight) * 2 ^ 589) (2 ^ 1074 * 2 ^ 1074) (pow_pos 2148) (pow_pos 2148)
        (mul-le-mul_right (2 ^ 1074 * 2 ^ 1074) (mul-le-mul r (pow_mono {i = j} {j = 589} (places (size n) few))))))
      where
        places : (z : ℕ) → z ≤ 590 → z - 1 ≤ 589
        places z h = omega arith

    pub under_least : T (le (distance_of a b) (root_of plain_from))
    under_least = go (dec_le (2 ^ 1179) (larger a b * larger a b))
      where
        go : Dec (2 ^ 1179 ≤ larger a b * larger a b) → T (le (distance_of a b) (root_of plain_from))
        go (yes k) =
            subst (λ (x : Float). T (le x (root_of plain_from))) (sym (same_as_before a b under_finite k))
            (root_mono (square_of a b) plain_from (square_fits a b) plain_from-fits (subst T (sym (lt_le _ _ h)) tt))
        go (no f) = short (lt_of_not-le f)
