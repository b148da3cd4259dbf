-- The sum of two squares, scaled and not, in units: the one is a power of two of the other wherever the larger number, squared, is 2 ^ -969 at least. Either
-- both squares keep all their digits, or the smaller one is lost in the sum, scaled or not. Assumes nothing.
use mathlib.Core.Path.{◌≡◌, refl, sym, ap, ◌∙◌, subst}
use mathlib.Core.Logic.{inl, inr}
use Prim.Native.Nat.{ℕ, suc, ◌+◌, ◌-◌, ◌*◌, ◌/◌, ◌^◌, ◌≤◌, ◌<◌}
use native.Mathlib.Nat.{le_refl, le_trans, le_of_eq, le_of_lt, lt_of_le_of_lt, lt_of_lt_of_le, lt_of_not-le, eq-or-lt_of_le, mul-one, mul_assoc, mul_comm, mul_right_comm, mul-le-mul, mul-le-mul_right, mul-pos, mul-div_cancel, mul-mul-mul_comm, div-lt_iff_lt-mul, eq_of_mul-eq-mul_right, le_of_mul-le-mul_right, lt_of_mul-lt-mul_right}
use native.Mathlib.Decide.{dec_le}
use native.Mathlib.Omega.{arith}
use lib.Dec.{lit<, lit≤}
use lib.Pow.{pow-add, pow_pos, pow_mono, shl_lt}
use lib.Ieee.{binary64, size}
use lib.Ieee.Digits.{size-lt, size-le}
use lib.Ieee.Nearest.{closest}
use lib.Ieee.Order.{drop}
use lib.Ieee.Scale.{grid}
use Rattle.root.proofs.Squares.{sq_mono, sq_lt}
use Rattle.root.proofs.Scaling.{pow_below, shift_add}
use Rattle.distance_rule.proofs.Grids.{closest_exact, closest_most, join, grid_most, grid_least, grid_mono, grid_same, Held, full, digits, grid_digits, added, added_digits, added_small}

-- ---- what a fraction is rounded to is held

pub held_grid : (a c : ℕ) → 0 < c → Held (grid binary64 a c)
held_grid a c p =
    let n = a * 2 ^ 1074 in
    let d = drop 53 n c in
    let z = size (n / c) in
    let k = closest n (c * 2 ^ d) in
    let wide : n ≤ 2 ^ 53 * (c * 2 ^ d) =
    le_trans (le_of_lt ((div-lt_iff_lt-mul p).0 (size-lt (n / c))))
    (le_trans (mul-le-mul_right c (pow_mono (over z))) (le_of_eq (ap (λ (x : ℕ). x * c) (pow-add 2 53 d) ∙ mul_assoc (2 ^ 53) (2 ^ d) c ∙ ap (λ (x : ℕ). 2 ^ 53 * x) (mul_comm (2 ^ d) c))))
    in
    elim (eq-or-lt_of_le (closest_most n (c * 2 ^ d) (2 ^ 53) (mul-pos p (pow_pos d)) wide)) [
      | inl e ↦ record { digits = 2 ^ 52; places = suc d; is = ap (λ (x : ℕ). x * 2 ^ d) e ∙ sym (twice d); few = omega arith }
      | inr l ↦ record { digits = k; places = d; is = refl; few = l }
    ]
  where
    over : (z : ℕ) → z ≤ 53 + (z - 53)
    over z = omega arith

    twice : (d : ℕ) → 2 ^ 52 * 2 ^ suc d ≡ 2 ^ 53 * 2 ^ d
    twice d = sym (pow-add 2 52 (suc d)) ∙ ap (λ (x : ℕ). 2 ^ x) (one d) ∙ pow-add 2 53 d
      where
        one : (d : ℕ) → 52 + suc d ≡ 53 + d
        one d = omega arith

-- and what is held is not rounded
pub grid_exact : (o k : ℕ) → o < 2 ^ 53 → grid binary64 (o * 2 ^ k) (2 ^ 1074) ≡ o * 2 ^ k
grid_exact o k h =
    let L = 2 ^ 1074 in
    let w = o * 2 ^ k in
    let d = size (w * L / L) - 53 in
    let few : d ≤ k = most (size (w * L / L)) k (size-le (w * L / L) (53 + k) (subst (λ (x : ℕ). x < 2 ^ (53 + k)) (sym (mul-div_cancel w (pow_pos 1074))) (shl_lt 53 k h))) in
    let back : o * 2 ^ (k - d) * 2 ^ d ≡ w = mul_assoc o (2 ^ (k - d)) (2 ^ d) ∙ ap (λ (x : ℕ). o * x) (join k d few) in
    ap (λ (x : ℕ). closest x (L * 2 ^ d) * 2 ^ d) (ap (λ (x : ℕ). x * L) (sym back) ∙ mul_right_comm (o * 2 ^ (k - d)) (2 ^ d) L ∙ mul_assoc (o * 2 ^ (k - d)) L (2 ^ d))
    ∙ ap (λ (x : ℕ). x * 2 ^ d) (closest_exact (o * 2 ^ (k - d)) (L * 2 ^ d) (mul-pos (pow_pos 1074) (pow_pos d)))
    ∙ back
  where
    most : (z k : ℕ) → z ≤ 53 + k → z - 53 ≤ k
    most z k h = omega arith

-- ---- a square and a scaled number, in units

abbrev pub square : ℕ → ℕ
square u = grid binary64 (u * u) (2 ^ 1074 * 2 ^ 1074)

abbrev pub down : ℕ → ℕ → ℕ
down j u = grid binary64 u (2 ^ j)

-- a number that is not much smaller than the larger one is scaled without a rounding
pub down_exact : (u j : ℕ) → Held u → 2 ^ j ≤ u * 2 ^ 1000 → down j u * 2 ^ j ≡ u * 2 ^ 1074
down_exact u j h l =
    let o = h.digits in
    let i = h.places in
    let near : j < 1053 + i =
    pow_below j (1053 + i) (u * 2 ^ 1000) l
    (subst (λ (x : ℕ). x < 2 ^ (1053 + i)) (sym (ap (λ (x : ℕ). x * 2 ^ 1000) h.is ∙ shift_add o i 1000 (i + 1000) (omega arith)))
    (subst (λ (x : ℕ). o * 2 ^ (i + 1000) < 2 ^ x) (sum i) (shl_lt 53 (i + 1000) h.few)))
    in
    let k = i + 1074 - j in
    let e : o * 2 ^ k * 2 ^ j ≡ u * 2 ^ 1074 = shift_add o k j (i + 1074) (omega arith) ∙ sym (ap (λ (x : ℕ). x * 2 ^ 1074) h.is ∙ shift_add o i 1074 (i + 1074) (omega arith)) in
    ap (λ (x : ℕ). x * 2 ^ j) (grid_same u (2 ^ j) (o * 2 ^ k) (2 ^ 1074) (pow_pos j) (pow_pos 1074) (sym e) ∙ grid_exact o k h.few) ∙ e
  where
    sum : (i : ℕ) → 53 + (i + 1000) ≡ 1053 + i
    sum i = omega arith

square_down : (u j : ℕ) → down j u * 2 ^ j ≡ u * 2 ^ 1074 → square (down j u) ≡ grid binary64 (u * u) (2 ^ (j + j))
square_down u j e =
    let g = down j u in
    grid_same (g * g) (2 ^ 1074 * 2 ^ 1074) (u * u) (2 ^ (j + j)) (pow_pos 2148) (pow_pos (j + j))
    (ap (λ (x : ℕ). g * g * x) (pow-add 2 j j) ∙ mul-mul-mul_comm g g (2 ^ j) (2 ^ j) ∙ ap (λ (x : ℕ). x * x) e ∙ mul-mul-mul_comm u (2 ^ 1074) u (2 ^ 1074))

square_digits : (u : ℕ) → 2 ^ 1126 ≤ u * u → square u * 2 ^ 2148 ≡ digits (u * u)
square_digits u h = grid_digits (u * u) 2148 (mul-le-mul_right (2 ^ 1074) h)

square_down_digits : (u j : ℕ) → down j u * 2 ^ j ≡ u * 2 ^ 1074 → 2 ^ (j + j) ≤ u * u * 2 ^ 1022 → square (down j u) * 2 ^ (j + j) ≡ digits (u * u)
square_down_digits u j e h =
    ap (λ (x : ℕ). x * 2 ^ (j + j)) (square_down u j e)
    ∙ grid_digits (u * u) (j + j) (le_trans (le_of_eq (mul_comm (2 ^ 52) (2 ^ (j + j)))) (le_trans (mul-le-mul_right (2 ^ 52) h) (le_of_eq (mul_assoc (u * u) (2 ^ 1022) (2 ^ 52)))))

-- ---- a summand that is lost

-- twice b is below 2 ^ i, and a reaches its 53rd digit
record Lost (a b : ℕ) : Type 0 where
  i : ℕ
  one : 1 ≤ i
  small : 2 * b < 2 ^ i
  large : 2 ^ (i + 52) ≤ a

lost : (a b : ℕ) → Held a → Lost a b → added a b ≡ a
lost a b h l =
    let f = full a h (le_trans (pow_mono {i = 53} {j = l.i + 52} (omega (arith, l.one))) l.large) in
    let q = f.digits in
    let k = f.places in
    let wide : l.i + 52 < 53 + k = pow_below (l.i + 52) (53 + k) a l.large (subst (λ (x : ℕ). x < 2 ^ (53 + k)) (sym f.is) (shl_lt 53 k f.most)) in
    ap (λ (x : ℕ). added x b) f.is ∙ added_small q k b f.least f.most (lt_of_lt_of_le l.small (pow_mono {i = l.i} {j = k} (omega arith))) ∙ sym f.is

-- ---- the two sums

raised : (n k : ℕ) → n ≤ n * 2 ^ k
raised n k = le_trans (le_of_eq (sym (mul-one n))) (mul-le-mul (le_refl n) (pow_pos k))

twice : (b i : ℕ) → b ≤ 2 ^ i → 2 * b < 2 ^ (i + 2)
twice b i h = subst (λ (x : ℕ). 2 * b < x) (sym (pow-add 2 i 2)) (omega (arith, pow_pos i))

moved : (i t k s : ℕ) → k + s ≡ i + t → 2 ^ k * 2 ^ s ≡ 2 ^ i * 2 ^ t
moved i t k s e = sym (pow-add 2 k s) ∙ ap (λ (x : ℕ). 2 ^ x) e ∙ pow-add 2 i t

down_mono : (j u v : ℕ) → u ≤ v → down j u ≤ down j v
down_mono j u v h = grid_mono u (2 ^ j) v (2 ^ j) (pow_pos j) (pow_pos j) (mul-le-mul_right (2 ^ j) h)

square_mono : (u v : ℕ) → u ≤ v → square u ≤ square v
square_mono u v h = grid_mono (u * u) (2 ^ 1074 * 2 ^ 1074) (v * v) (2 ^ 1074 * 2 ^ 1074) (pow_pos 2148) (pow_pos 2148) (mul-le-mul_right (2 ^ 1074 * 2 ^ 1074) (sq_mono u v h))

square_held : (u : ℕ) → Held (square u)
square_held u = held_grid (u * u) (2 ^ 1074 * 2 ^ 1074) (pow_pos 2148)

-- u is the larger, and 2 ^ j the power of two that it reaches
module _ (u v j : ℕ) (hu : Held u) (hv : Held v) (lo : 2 ^ j ≤ u) (hi : u < 2 ^ suc j) (order : v ≤ u) where
  abbrev Apart : Type 0
  Apart = added (square u) (square v) * 2 ^ 2148 ≡ added (square (down j u)) (square (down j v)) * 2 ^ (j + j)

  exact : down j u * 2 ^ j ≡ u * 2 ^ 1074
  exact = down_exact u j hu (le_trans lo (raised u 1000))

  reaches : 2 ^ (j + j) ≤ u * u
  reaches = le_trans (le_of_eq (pow-add 2 j j)) (mul-le-mul lo lo)

  larger_digits : square (down j u) * 2 ^ (j + j) ≡ digits (u * u)
  larger_digits = square_down_digits u j exact (le_trans reaches (raised (u * u) 1022))

  larger_least : (i : ℕ) → 2 ^ i * 2 ^ (j + j) ≤ u * u * 2 ^ 1074 → 2 ^ i ≤ square (down j u)
  larger_least i h = subst (λ (x : ℕ). 2 ^ i ≤ x) (sym (square_down u j exact)) (grid_least (u * u) (2 ^ (j + j)) i (pow_pos (j + j)) h)

  larger_one : 2 ^ 1074 ≤ square (down j u)
  larger_one = larger_least 1074 (le_trans (le_of_eq (mul_comm (2 ^ 1074) (2 ^ (j + j)))) (mul-le-mul_right (2 ^ 1074) reaches))

  -- both keep their digits
  both : 2 ^ 1126 ≤ u * u → 2 ^ 1126 ≤ v * v → 2 ^ j ≤ v * 2 ^ 27 → Apart
  both h g near =
      let S = added (square u) (square v) in
      let R = added (square (down j u)) (square (down j v)) in
      let close : 2 ^ (j + j) ≤ v * v * 2 ^ 54 =
      le_trans (le_of_eq (pow-add 2 j j)) (le_trans (mul-le-mul near near) (le_of_eq (mul-mul-mul_comm v (2 ^ 27) v (2 ^ 27))))
      in
      let e = down_exact v j hv (le_trans near (le_trans (raised (v * 2 ^ 27) 973) (le_of_eq (mul_assoc v (2 ^ 27) (2 ^ 973))))) in
      let wide : v * v * 2 ^ 54 ≤ v * v * 2 ^ 1022 = le_trans (raised (v * v * 2 ^ 54) 968) (le_of_eq (mul_assoc (v * v) (2 ^ 54) (2 ^ 968))) in
      let p = added_digits (square u) (square v) 2148 _ _ (grid_least (u * u) (2 ^ 1074 * 2 ^ 1074) 52 (pow_pos 2148) (mul-le-mul_right (2 ^ 1074) h)) (square_digits u h) (square_digits v g) in
      let q = added_digits (square (down j u)) (square (down j v)) (j + j) _ _ (le_trans (pow_mono {i = 52} {j = 1074} (omega arith)) larger_one) larger_digits (square_down_digits v j e (le_trans close wide)) in
      eq_of_mul-eq-mul_right (2 ^ 1074) (pow_pos 1074) (S * 2 ^ 2148) (R * 2 ^ (j + j))
      (mul_right_comm S (2 ^ 2148) (2 ^ 1074) ∙ p ∙ sym q ∙ mul_right_comm R (2 ^ 1074) (2 ^ (j + j)))

  -- the smaller is lost
  alone : 2 ^ 1126 ≤ u * u → Lost (square u) (square v) → Lost (square (down j u)) (square (down j v)) → Apart
  alone h p q =
      ap (λ (x : ℕ). x * 2 ^ 2148) (lost (square u) (square v) (square_held u) p)
      ∙ square_digits u h
      ∙ sym larger_digits
      ∙ ap (λ (x : ℕ). x * 2 ^ (j + j)) (sym (lost (square (down j u)) (square (down j v)) (square_held (down j u)) q))

  -- it is, where it is 2 ^ 27 times smaller
  module _ (far : v * 2 ^ 27 ≤ 2 ^ j) where
    tiny : v * v * 2 ^ 54 ≤ 2 ^ (j + j)
    tiny = le_trans (le_of_eq (sym (mul-mul-mul_comm v (2 ^ 27) v (2 ^ 27)))) (le_trans (mul-le-mul far far) (le_of_eq (sym (pow-add 2 j j))))

    lost_down : Lost (square (down j u)) (square (down j v))
    lost_down =
        let g : down j v ≤ 2 ^ 1047 =
        grid_most v (2 ^ j) 1047 (pow_pos j) (le_trans (le_of_eq (sym (mul_assoc v (2 ^ 27) (2 ^ 1047)))) (le_trans (mul-le-mul_right (2 ^ 1047) far) (le_of_eq (mul_comm (2 ^ j) (2 ^ 1047)))))
        in
        let s : square (down j v) ≤ 2 ^ 1020 =
        grid_most (down j v * down j v) (2 ^ 1074 * 2 ^ 1074) 1020 (pow_pos 2148) (mul-le-mul_right (2 ^ 1074) (mul-le-mul g g))
        in
        record { i = 1022; one = omega arith; small = twice (square (down j v)) 1020 s; large = larger_one }

    lost_plain : 590 ≤ j → Lost (square u) (square v)
    lost_plain h =
        let i = j + j - 1128 in
        let s : square v ≤ 2 ^ i =
        grid_most (v * v) (2 ^ 1074 * 2 ^ 1074) i (pow_pos 2148)
        (le_trans (le_of_eq (sym (mul_assoc (v * v) (2 ^ 54) (2 ^ 1020)))) (le_trans (mul-le-mul_right (2 ^ 1020) tiny) (le_of_eq (moved i 2148 (j + j) 1020 (omega arith)))))
        in
        let l : 2 ^ (i + 54) ≤ square u =
        grid_least (u * u) (2 ^ 1074 * 2 ^ 1074) (i + 54) (pow_pos 2148) (le_trans (le_of_eq (sym (moved (i + 54) 2148 (j + j) 1074 (omega arith)))) (mul-le-mul_right (2 ^ 1074) reaches))
        in
        record { i = i + 2; one = omega arith; small = twice (square v) i s; large = le_trans (le_of_eq (ap (λ (x : ℕ). 2 ^ x) (omega arith))) l }

-- ---- on the edge: the larger is below 2 ^ -484, its square 2 ^ -969 at least

-- the largest double below 2 ^ -511, in units
abbrev edge : ℕ
edge = 2 ^ 563 - 2 ^ 510

below_edge : (v : ℕ) → Held v → v < 2 ^ 563 → v ≤ edge
below_edge v h l = go (dec_le 510 h.places)
  where
    fewer : (w : ℕ) → w < 2 ^ 53 → w ≤ 2 ^ 53 - 1
    fewer w h = omega arith

    -- the multiples of 2 ^ 510 are that far apart
    steps : (w : ℕ) → w < 2 ^ 53 → w * 2 ^ 510 ≤ edge
    steps w h = le_trans (mul-le-mul_right (2 ^ 510) (fewer w h)) (lit≤ tt)

    go : Dec (510 ≤ h.places) → v ≤ edge
    go (yes g) =
        let i = h.places in
        let e : v ≡ h.digits * 2 ^ (i - 510) * 2 ^ 510 = h.is ∙ sym (shift_add h.digits (i - 510) 510 i (omega arith)) in
        subst (λ (x : ℕ). x ≤ edge) (sym e)
        (steps (h.digits * 2 ^ (i - 510)) (lt_of_mul-lt-mul_right (2 ^ 510) (subst (λ (x : ℕ). x < 2 ^ 53 * 2 ^ 510) e l)))
    go (no f) =
        le_trans (le_of_eq h.is)
        (le_trans (le_of_lt (shl_lt 53 h.places h.few)) (le_trans (pow_mono {i = 53 + h.places} {j = 562} (omega (arith, lt_of_not-le f))) (lit≤ tt)))

square_edge : 2 * square edge < 2 ^ 53
unfolding size
square_edge = lit< tt

square_down_edge : 2 * square (down 589 edge) < 2 ^ 1023
unfolding size
square_down_edge = lit< tt

-- ---- all of it

module _ (u v j : ℕ) (hu : Held u) (hv : Held v) (lo : 2 ^ j ≤ u) (hi : u < 2 ^ suc j) (order : v ≤ u) (large : 2 ^ 1179 ≤ u * u) where
  wide : 2 ^ 1126 ≤ u * u
  wide = le_trans (pow_mono {i = 1126} {j = 1179} (omega arith)) large

  at_edge : j ≡ 589 → v < 2 ^ 563 → added (square u) (square v) * 2 ^ 2148 ≡ added (square (down j u)) (square (down j v)) * 2 ^ (j + j)
  at_edge e l =
      let b : v ≤ edge = below_edge v hv l in
      let twice-mono : (a b : ℕ) → a ≤ b → 2 * a ≤ 2 * b = λ a b h. mul-le-mul (le_refl 2) h in
      alone u v j hu hv lo hi order wide
      (record {
        i = 53;
        one = lit≤ tt;
        small = lt_of_le_of_lt (twice-mono (square v) (square edge) (square_mono v edge b)) square_edge;
        large = grid_least (u * u) (2 ^ 1074 * 2 ^ 1074) 105 (pow_pos 2148) (mul-le-mul_right (2 ^ 1074) large);
      })
      (record {
        i = 1023;
        one = lit≤ tt;
        small =
            lt_of_le_of_lt
            (twice-mono (square (down j v)) (square (down 589 edge))
            (subst (λ (k : ℕ). square (down k v) ≤ square (down 589 edge)) (sym e) (square_mono (down 589 v) (down 589 edge) (down_mono 589 v edge b))))
            square_down_edge;
        large = larger_least u v j hu hv lo hi order 1075 (subst (λ (k : ℕ). 2 ^ 1075 * 2 ^ (k + k) ≤ u * u * 2 ^ 1074) (sym e) (mul-le-mul_right (2 ^ 1074) large));
      })

  least_place : 589 ≤ j
  least_place =
      halved j (pow_below 1179 (suc j + suc j) (u * u) large (lt_of_lt_of_le (sq_lt u (2 ^ suc j) hi) (le_of_eq (sym (pow-add 2 (suc j) (suc j))))))
    where
      halved : (j : ℕ) → 1179 < suc j + suc j → 589 ≤ j
      halved j h = omega arith

  pub sums_apart : added (square u) (square v) * 2 ^ 2148 ≡ added (square (down j u)) (square (down j v)) * 2 ^ (j + j)
  sums_apart = go (dec_le 590 j) (dec_le (2 ^ j) (v * 2 ^ 27)) (dec_le (2 ^ 563) v)
    where
      wide_v : 2 ^ 563 ≤ v → 2 ^ 1126 ≤ v * v
      wide_v h = mul-le-mul h h

      go : Dec (590 ≤ j) → Dec (2 ^ j ≤ v * 2 ^ 27) → Dec (2 ^ 563 ≤ v)
          → added (square u) (square v) * 2 ^ 2148 ≡ added (square (down j u)) (square (down j v)) * 2 ^ (j + j)
      go (yes h) (yes g) k =
          both u v j hu hv lo hi order wide (wide_v (le_of_mul-le-mul_right {k = 2 ^ 27} (le_trans (pow_mono {i = 590} {j = j} h) g) (pow_pos 27))) g
      go (yes h) (no f) k =
          let far = le_of_lt (lt_of_not-le f) in
          alone u v j hu hv lo hi order wide (lost_plain u v j hu hv lo hi order far h) (lost_down u v j hu hv lo hi order far)
      go (no f) g (yes k) =
          both u v j hu hv lo hi order wide (wide_v k) (le_trans (pow_mono {i = j} {j = 590} (le_of_lt (lt_of_not-le f))) (mul-le-mul_right (2 ^ 27) k))
      go (no f) g (no k) = at_edge (omega (arith, lt_of_not-le f, least_place)) (lt_of_not-le k)

  -- neither sum is 0
  added_positive : (a b i : ℕ) → 2 ^ i ≤ a → 0 < added a b
  added_positive a b i h = lt_of_lt_of_le (pow_pos i) (grid_least (a + b) (2 ^ 1074) i (pow_pos 1074) (mul-le-mul_right (2 ^ 1074) (le_trans h (omega arith))))

  pub plain_positive : 0 < added (square u) (square v)
  plain_positive = added_positive (square u) (square v) 105 (grid_least (u * u) (2 ^ 1074 * 2 ^ 1074) 105 (pow_pos 2148) (mul-le-mul_right (2 ^ 1074) large))

  pub down_positive : 0 < added (square (down j u)) (square (down j v))
  down_positive = added_positive (square (down j u)) (square (down j v)) 1074 (larger_one u v j hu hv lo hi order)
