-- Where the distance is the one of the rule before: with L the larger of the two differences in size, wherever L is 0, and wherever L * L is 2 ^ -969 at
-- least (so from 2 ^ -484 on) and the distance by the rule before is finite. Assumes nothing.
use mathlib.Core.Path.{◌≡◌, refl, sym, ap, ◌∙◌, subst}
use mathlib.Core.Bool.{Bool, true, false, ◌&&◌, cond, true≢false}
use mathlib.Core.Logic.{◌⊎◌, inl, inr}
use Prim.Native.Nat.{ℕ, zero, suc, ◌+◌, ◌-◌, ◌*◌, ◌^◌, ◌≤◌, ◌<◌, max}
use native.Mathlib.Nat.{le_trans, le_of_eq, le_of_lt, lt_of_lt_of_le, lt_of_not-le, eq-zero-or-pos, add_comm, mul_assoc, mul-le-mul, max-eq_left, max-eq_right, le-max_left, le-max_right}
use native.Mathlib.Decide.{dec_le}
use native.Mathlib.Omega.{arith}
use lib.Dec.{T}
use lib.Pow.{pow_pos, pow_mono}
use lib.IntN.{pos}
use lib.Ieee.{Float, nan, inf, fin, binary64, size, round, add, mul, fits}
use lib.Ieee.Bits.{is_true}
use lib.Ieee.Digits.{size-lt, size_reaches}
use lib.Ieee.Exact.{HasValue}
use lib.Ieee.Scale.{grid, finite, round_same}
use Rattle.meaning.specs.Scalar.{plain}
use Rattle.meaning.specs.Root.{in_units, root_of}
use Rattle.meaning.proofs.Tests.{by_two, refuted, and_both, and_left, and_right}
use Rattle.meaning.proofs.Values.{add_finite, mul_finite}
use Rattle.plane.specs.Vector.{Vector, sub_v}
use Rattle.root.proofs.Scaling.{pow_below}
use Rattle.root.proofs.Doubles.{units_of, unsigned_of}
use Rattle.root.proofs.Range.{root-fits}
use Rattle.distance_rule.specs.Distance.{leading_place, scaled_down, scaled_up, length_of, distance_of}
use Rattle.distance_rule.specs.Squares.{square_of, unscaled_of}
use Rattle.distance_rule.proofs.Grids.{Held, added}
use Rattle.distance_rule.proofs.Roots.{root-apart}
use Rattle.distance_rule.proofs.Sums.{square, down, sums_apart, plain_positive, down_positive}
use Rattle.distance_rule.proofs.Signs.{plus, square_plus}
use Rattle.distance_rule.proofs.Parts.{dot_of, dot_fits, sub-fits, held, own_dot, no_sum, scaled_dot, round_own, root-unsigned}

-- ---- the leading place

pub record Leads (n j : ℕ) : Type 0 where
  pub least : 2 ^ j ≤ n
  pub most : n < 2 ^ suc j

pub below_next : (n : ℕ) → n < 2 ^ suc (leading_place n)
below_next n = lt_of_lt_of_le (size-lt n) (pow_mono (reached (size n)))
  where
    reached : (z : ℕ) → z ≤ suc (z - 1)
    reached z = omega arith

pub leads : (n : ℕ) → 0 < n → Leads n (leading_place n)
leads n p =
    let one : 0 < size n = pow_below 0 (size n) n p (size-lt n) in
    record { least = size_reaches n (leading_place n) (omega arith); most = below_next n }

-- ---- from equal digits of the sums to the same length

module _ (s : Float) (f : T (fits binary64 s)) (u v j : ℕ) (value : HasValue s false (added (square u) (square v)) (2 ^ 1074)) (hu : u ≤ 2 ^ suc j) (hv : v ≤ 2 ^ suc j) where
  abbrev scaled : Float
  scaled = dot_of (scaled_down j u) (scaled_down j v)

  from_sums : 0 < added (square u) (square v) → 0 < added (square (down j u)) (square (down j v))
      → added (square u) (square v) * 2 ^ 2148 ≡ added (square (down j u)) (square (down j v)) * 2 ^ (j + j)
      → scaled_up j (root_of (dot_of (scaled_down j u) (scaled_down j v))) ≡ root_of s
  from_sums p q e =
      let t = scaled_dot j u v hu hv in
      let m = units_of s _ value in
      let n = units_of scaled _ t in
      let r : in_units (root_of s) * 2 ^ 1074 ≡ in_units (root_of scaled) * 2 ^ j =
      root-apart s scaled f (dot_fits (scaled_down j u) (scaled_down j v)) (unsigned_of s _ value) (unsigned_of scaled _ t) (subst (λ (k : ℕ). 0 < k) (sym m) p) (subst (λ (k : ℕ). 0 < k) (sym n) q) 1074 j
      (ap (λ (k : ℕ). k * 2 ^ 2148) m ∙ e ∙ sym (ap (λ (k : ℕ). k * 2 ^ (j + j)) n))
      in
      ap (λ (k : ℕ). round binary64 false k (2 ^ 1074 * 2 ^ 1074)) (sym r)
      ∙ round_same binary64 false (in_units (root_of s) * 2 ^ 1074) (2 ^ 1074 * 2 ^ 1074) (in_units (root_of s)) (2 ^ 1074) (pow_pos 2148) (pow_pos 1074) (mul_assoc (in_units (root_of s)) (2 ^ 1074) (2 ^ 1074))
      ∙ round_own (root_of s) (root-fits s) (root-unsigned s _ f value)

-- ---- the length

added_comm : (a b : ℕ) → added a b ≡ added b a
added_comm a b = ap (λ (n : ℕ). grid binary64 n (2 ^ 1074)) (add_comm a b)

module _ (s : Float) (f : T (fits binary64 s)) (u v : ℕ) (hu : Held u) (hv : Held v) (value : HasValue s false (added (square u) (square v)) (2 ^ 1074)) where
  -- whichever is the larger
  larger_first : (j : ℕ) → Leads u j → v ≤ u → 2 ^ 1179 ≤ u * u → scaled_up j (root_of (dot_of (scaled_down j u) (scaled_down j v))) ≡ root_of s
  larger_first j l h large =
      let most = le_of_lt l.most in
      from_sums s f u v j value most (le_trans h most)
      (plain_positive u v j hu hv l.least l.most h large) (down_positive u v j hu hv l.least l.most h large) (sums_apart u v j hu hv l.least l.most h large)

  larger_second : (j : ℕ) → Leads v j → u ≤ v → 2 ^ 1179 ≤ v * v → scaled_up j (root_of (dot_of (scaled_down j u) (scaled_down j v))) ≡ root_of s
  larger_second j l h large =
      let most = le_of_lt l.most in
      let a = added_comm (square v) (square u) in
      let b = added_comm (square (down j v)) (square (down j u)) in
      from_sums s f u v j value (le_trans h most) most
      (subst (λ (n : ℕ). 0 < n) a (plain_positive v u j hv hu l.least l.most h large))
      (subst (λ (n : ℕ). 0 < n) b (down_positive v u j hv hu l.least l.most h large))
      (ap (λ (n : ℕ). n * 2 ^ 2148) (sym a) ∙ sums_apart v u j hv hu l.least l.most h large ∙ ap (λ (n : ℕ). n * 2 ^ (j + j)) b)

  positive : (n : ℕ) → 2 ^ 1179 ≤ n * n → 0 < n
  positive zero h = absurd (omega (arith, lt_of_lt_of_le (pow_pos 1179) h))
  positive (suc n) h = omega arith

  same_sum : 2 ^ 1179 ≤ max u v * max u v → length_of u v ≡ root_of s
  unfolding length_of
  same_sum large = go (dec_le v u)
    where
      lead_of : {n : ℕ} → max u v ≡ n → Leads n (leading_place (max u v))
      lead_of e = subst (λ (k : ℕ). Leads k (leading_place (max u v))) e (leads (max u v) (positive (max u v) large))

      go : Dec (v ≤ u) → scaled_up (leading_place (max u v)) (root_of (dot_of (scaled_down (leading_place (max u v)) u) (scaled_down (leading_place (max u v)) v))) ≡ root_of s
      go (yes h) = let e = max-eq_left h in larger_first (leading_place (max u v)) (lead_of e) h (rw e at large)
      go (no k) =
          let h = le_of_lt (lt_of_not-le k) in
          let e = max-eq_right h in
          larger_second (leading_place (max u v)) (lead_of e) h (rw e at large)

-- ---- the distance

-- the larger difference, in units
abbrev pub larger : Vector Float → Vector Float → ℕ
larger a b = let d = sub_v plain a b in max (in_units d.x) (in_units d.y)

-- both differences are finite where the sum of their squares is
pub parts_finite : (x y : Float) → T (finite (dot_of x y)) → T (finite x) × T (finite y)
parts_finite x y h = let f = add_finite binary64 (mul binary64 x x) (mul binary64 y y) h in ((mul_finite binary64 x x f.0).0, (mul_finite binary64 y y f.1).0)

root_finite : (s : Float) → T (plus s) → T (finite (root_of s)) → T (finite s)
unfolding root_of
root_finite nan p h = h
root_finite (inf true) p h = absurd p
root_finite (inf false) p h = h
root_finite (fin s m e) p h = tt

pub le_zero : {n : ℕ} → n ≤ 0 → n ≡ 0
le_zero {n} h = omega arith

-- what 0 and 0 give, by either rule
pub no_length : length_of 0 0 ≡ fin false 0 (pos 0)
unfolding length_of root_of add mul
no_length = refl

no_root : root_of (fin false 0 (pos 0)) ≡ fin false 0 (pos 0)
unfolding root_of
no_root = refl

module _ (a b : Vector Float) where
  abbrev dx : Float
  dx = (sub_v plain a b).x

  abbrev dy : Float
  dy = (sub_v plain a b).y

  -- both differences are finite
  pub finite_distance : T (finite dx) → T (finite dy) → distance_of a b ≡ length_of (in_units dx) (in_units dy)
  unfolding distance_of
  finite_distance f g = rw (and_both (finite dx) (finite dy) (is_true (finite dx) f) (is_true (finite dy) g))

  -- where the sum of the squares is finite
  pub same_as_before : T (finite (square_of a b)) → 2 ^ 1179 ≤ larger a b * larger a b → distance_of a b ≡ root_of (square_of a b)
  unfolding square_of
  same_as_before h large =
      let f = parts_finite dx dy h in
      let p = sub-fits a.x b.x in
      let q = sub-fits a.y b.y in
      finite_distance f.0 f.1
      ∙ same_sum (dot_of dx dy) (dot_fits dx dy) (in_units dx) (in_units dy) (held dx p f.0) (held dy q f.1) (own_dot dx dy p q f.0 f.1 h) large

  -- where the distance by the rule before is
  pub as_before : T (finite (unscaled_of a b)) → 2 ^ 1179 ≤ larger a b * larger a b → distance_of a b ≡ unscaled_of a b
  unfolding unscaled_of
  as_before h large = same_as_before (root_finite (square_of a b) (square_plus a b) h) large

  -- ---- both differences are 0

  module _ (f : T (finite dx)) (g : T (finite dy)) (z : larger a b ≡ 0) where
    none-x : in_units dx ≡ 0
    none-x = le_zero (le_trans (le-max_left (in_units dx) (in_units dy)) (le_of_eq z))

    none-y : in_units dy ≡ 0
    none-y = le_zero (le_trans (le-max_right (in_units dx) (in_units dy)) (le_of_eq z))

    pub zero_distance : distance_of a b ≡ fin false 0 (pos 0)
    zero_distance = finite_distance f g ∙ ap (λ (u : ℕ). length_of u (in_units dy)) none-x ∙ ap (length_of 0) none-y ∙ no_length

    pub zero_before : distance_of a b ≡ unscaled_of a b
    unfolding unscaled_of square_of
    zero_before = zero_distance ∙ sym (ap root_of (no_sum dx dy (sub-fits a.x b.x) (sub-fits a.y b.y) f g none-x none-y) ∙ no_root)

  -- ---- a difference is not finite

  pub wild_before : (finite dx && finite dy) ≡ false → distance_of a b ≡ unscaled_of a b
  unfolding distance_of unscaled_of square_of
  wild_before h = ap (λ (k : Bool). cond k (length_of (in_units dx) (in_units dy)) (root_of (dot_of dx dy))) h

  -- and the distance neither
  pub wild_distance : (finite dx && finite dy) ≡ false → finite (distance_of a b) ≡ false
  unfolding unscaled_of square_of
  wild_distance h =
      refuted (finite (distance_of a b)) (λ e.
      let f = parts_finite dx dy (root_finite (dot_of dx dy) (square_plus a b) (subst T (sym (ap finite (sym (wild_before h)) ∙ e)) tt)) in
      true≢false (sym (and_both (finite dx) (finite dy) (is_true (finite dx) f.0) (is_true (finite dy) f.1)) ∙ h))

  -- ---- so it may differ only where the larger difference is not 0 and its square below 2 ^ -969, or where the rule before gives no finite distance

  pub record MayDiffer : Type 0 where
    pub numbers : (finite dx && finite dy) ≡ true
    pub edge : ((0 < larger a b) × (larger a b * larger a b < 2 ^ 1179)) ⊎ (finite (unscaled_of a b) ≡ false)

  pub same_or : (distance_of a b ≡ unscaled_of a b) ⊎ MayDiffer
  same_or = by_two (finite dx && finite dy) (λ h. both h (eq-zero-or-pos (larger a b)) (dec_le (2 ^ 1179) (larger a b * larger a b))) (λ h. inl (wild_before h))
    where
      both : (finite dx && finite dy) ≡ true → (larger a b ≡ 0) ⊎ (0 < larger a b) → Dec (2 ^ 1179 ≤ larger a b * larger a b) → (distance_of a b ≡ unscaled_of a b) ⊎ MayDiffer
      both h (inl z) k =
          inl (zero_before (subst T (sym (and_left (finite dx) (finite dy) h)) tt) (subst T (sym (and_right (finite dx) (finite dy) h)) tt) z)
      both h (inr p) (yes k) =
          by_two (finite (unscaled_of a b)) (λ g. inl (as_before (subst T (sym g) tt) k)) (λ g. inr (record { numbers = h; edge = inr g }))
      both h (inr p) (no k) = inr (record { numbers = h; edge = inl (p, lt_of_not-le k) })

-- from 2 ^ -484 on
pub size_enough : (n : ℕ) → 2 ^ 590 ≤ n → 2 ^ 1179 ≤ n * n
size_enough n h = le_trans (pow_mono {i = 1179} {j = 1180} (omega arith)) (mul-le-mul h h)
