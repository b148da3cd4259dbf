-- The length of a vector, from what the code calls for it. Assumes nothing.
use mathlib.Core.Path.{◌≡◌, refl, sym, ap, ◌∙◌, subst}
use mathlib.Core.Bool.{Bool, true, false, not, true≢false}
use mathlib.Core.Logic.{inl, inr}
use Prim.Native.Nat.{ℕ, suc, ◌-◌, ◌*◌, ◌^◌, ◌≤◌, ◌<◌, max}
use native.Mathlib.Nat.{le_trans, le_of_eq, le_of_lt, lt_of_le_of_lt, eq-zero-or-pos, le-max_left, le-max_right, max-eq_left, max-eq_right}
use native.Mathlib.Omega.{arith}
use lib.Dec.{T}
use lib.Ieee.{Float, nan, inf, fin, binary64, lt, le, eq, is_nan, mul, size, round, of_bits, to_bits, fits}
use lib.Ieee.Bits.{of_bits-fits}
use lib.Ieee.Digits.{size-le}
use lib.Ieee.Exact.{HasValue}
use Rattle.meaning.specs.Scalar.{zero64}
use Rattle.meaning.specs.Root.{in_units, unsigned, root_of}
use Rattle.meaning.proofs.Order.{lt_le, eq_le, eq_refl, not_lt_le}
use Rattle.root.specs.Pattern.{pattern_units}
use Rattle.root.proofs.Edges.{zero_is}
use Rattle.root.proofs.Doubles.{own_value, units_below, finite_below, same_value}
use Rattle.root.proofs.Range.{root-fits}
use Rattle.distance_rule.specs.Distance.{leading_place, scaled_down, length_of}
use Rattle.distance_rule.proofs.Roots.{units, positive}
use Rattle.distance_rule.proofs.Parts.{dot_of, dot_fits, scaled_dot, root-unsigned}
use Rattle.distance_rule.proofs.Same.{below_next, le_zero, no_length}
use Rattle.distance_rule.proofs.Plain.{units_order}
use Rattle.distance.proofs.Powers.{product}

no_nan : (x : Float) → T (unsigned x) → is_nan x ≡ false
unfolding is_nan
no_nan nan c = absurd c
no_nan (inf s) c = absurd c
no_nan (fin s m e) c = refl

pub unsigned-number : (x : Float) → T (unsigned x) → T (not (is_nan x))
unsigned-number x c = subst (λ (b : Bool). T (not b)) (sym (no_nan x c)) tt

zero_value : HasValue zero64 false 0 (2 ^ 1074)
unfolding of_bits
zero_value = (refl, refl)

zero_number : is_nan zero64 ≡ false
unfolding is_nan of_bits
zero_number = refl

at_least_lem : (x y : Float) → T (fits binary64 x) → T (fits binary64 y) → T (unsigned x) → T (unsigned y) → le x y ≡ true → in_units x ≤ in_units y
at_least_lem x y f g c d h = units_order x y (in_units x) (in_units y) (own_value x f c) (own_value y g d) (subst T (sym h) tt)

module _ (x y : Float) (f : T (fits binary64 x)) (g : T (fits binary64 y)) (c : T (unsigned x)) (d : T (unsigned y)) where
  abbrev top : ℕ
  top = max (in_units x) (in_units y)

  -- ---- the larger

  pub second : lt x y ≡ true → in_units y ≡ max (in_units x) (in_units y)
  second h = sym (max-eq_right (at_least_lem x y f g c d (lt_le x y h)))

  pub first : lt x y ≡ false → in_units x ≡ max (in_units x) (in_units y)
  first h = sym (max-eq_left (at_least_lem y x g f d c (not_lt_le x y (no_nan x c) (no_nan y d) h)))

  module _ (m : Float) (k : T (fits binary64 m)) (q : T (unsigned m)) (e : in_units m ≡ max (in_units x) (in_units y)) where
    -- ---- it is 0

    pub both_zero : eq m zero64 ≡ true → zero64 ≡ length_of (in_units x) (in_units y)
    both_zero h =
        let z : max (in_units x) (in_units y) ≡ 0 = le_zero (le_trans (le_of_eq (sym e)) (units_order m zero64 (in_units m) 0 (own_value m k q) zero_value (subst T (sym (eq_le m zero64 h)) tt))) in
        sym (ap (λ (u : ℕ). length_of u (in_units y)) (le_zero (le_trans (le-max_left (in_units x) (in_units y)) (le_of_eq z)))
        ∙ ap (length_of 0) (le_zero (le_trans (le-max_right (in_units x) (in_units y)) (le_of_eq z)))
        ∙ no_length
        ∙ sym zero_is)

    -- ---- it is not

    module _ (h : eq m zero64 ≡ false) where
      some_units : 0 < in_units m
      some_units = elim (eq-zero-or-pos (in_units m)) [
        | inl z ↦ absurd (true≢false (sym (subst (λ (w : Float). eq w zero64 ≡ true) (sym (is_zero z)) (eq_refl zero64 zero_number)) ∙ h))
        | inr p ↦ p
      ]
        where
          is_zero : in_units m ≡ 0 → m ≡ zero64
          is_zero z = same_value m zero64 0 k (of_bits-fits binary64 0) (subst (λ (n : ℕ). HasValue m false n (2 ^ 1074)) z (own_value m k q)) zero_value

      pub pattern_range : (0 < to_bits binary64 m) × (to_bits binary64 m < 0x7ff0_0000_0000_0000)
      pattern_range = (positive m k q some_units, finite_below m k q)

      module _ {j : ℕ} (l : j ≡ leading_place (pattern_units (to_bits binary64 m))) where
        place : j ≡ leading_place (max (in_units x) (in_units y))
        place = l ∙ ap leading_place (units m k q some_units ∙ e)

        pub few : j < 2098
        few = lt_of_le_of_lt (le_of_eq (l ∙ ap leading_place (units m k q some_units))) (less (size (in_units m)) (size-le (in_units m) 2098 (units_below m k q)))
          where
            less : (z : ℕ) → z ≤ 2098 → z - 1 < 2098
            less z h = omega arith

        pub under_x : in_units x < 2 ^ suc j
        under_x = subst (λ (i : ℕ). in_units x < 2 ^ suc i) (sym place) (lt_of_le_of_lt (le-max_left (in_units x) (in_units y)) (below_next top))

        pub under_y : in_units y < 2 ^ suc j
        under_y = subst (λ (i : ℕ). in_units y < 2 ^ suc i) (sym place) (lt_of_le_of_lt (le-max_right (in_units x) (in_units y)) (below_next top))

        pub length_is : (r p : Float) {s t a b : Float} → a ≡ scaled_down j (in_units x) → b ≡ scaled_down j (in_units y) → s ≡ dot_of a b → r ≡ root_of s → HasValue p false (2 ^ j) (2 ^ 1074)
            → t ≡ mul binary64 r p → t ≡ length_of (in_units x) (in_units y)
        unfolding length_of
        length_is r p {b = b} ea eb es er hp et =
            let u = in_units x in
            let v = in_units y in
            let w = dot_of (scaled_down j u) (scaled_down j v) in
            let is : r ≡ root_of w = er ∙ ap root_of (es ∙ ap (λ (z : Float). dot_of z b) ea ∙ ap (dot_of (scaled_down j u)) eb) in
            let value = scaled_dot j u v (le_of_lt under_x) (le_of_lt under_y) in
            let own : HasValue r false (in_units r) (2 ^ 1074) = own_value r (subst (λ (z : Float). T (fits binary64 z)) (sym is) (root-fits w)) (subst (λ (z : Float). T (unsigned z)) (sym is) (root-unsigned w _ (dot_fits (scaled_down j u) (scaled_down j v)) value)) in
            product r p (in_units r) (2 ^ j) own hp et
            ∙ ap (λ (z : Float). round binary64 false (in_units z * 2 ^ j) (2 ^ 1074 * 2 ^ 1074)) is
            ∙ ap (λ (i : ℕ). round binary64 false (in_units (root_of (dot_of (scaled_down i u) (scaled_down i v))) * 2 ^ i) (2 ^ 1074 * 2 ^ 1074)) place
