-- The same for values that are not below zero, among them the zero of either sign: so are their sums, products and quotients. And a product with one
-- such factor, by the parts of the other above and below zero. Assumes nothing.
use mathlib.Core.Path.{◌≡◌, refl, sym, ap, ◌∙◌, subst}
use mathlib.Core.Logic.{◌⊎◌, inl, inr}
use Prim.Native.Nat.{ℕ, ◌+◌, ◌*◌, ◌≤◌, ◌<◌}
use native.Mathlib.Nat.{le_of_mul-le-mul_right, lt_irrefl}
use native.Mathlib.Omega.{arith}
use mathlib.Core.Bool.{Bool, true, false, cond}
use lib.Dec.{T}
use lib.Ieee.{Float, unlike, add, sub, mul, div}
use lib.Ieee.Scale.{finite}
use Rattle.meaning.specs.Root.{in_units}
use Rattle.hull.specs.Units.{U, negative, plus, minus}
use Rattle.hull.proofs.Rounding.{P, H, Within}
use Rattle.meaning.proofs.Values.{B, U_pos}
use Rattle.hull.proofs.Operations.{Whole, Sum, gap, mul_model, div_model, add_model, sub_model, one_part, parts}

-- finite, and not below zero
pub record Pos (x : Float) : Type 0 where
  pub whole : Whole x
  pub none : minus x ≡ 0

-- ---- a sum or a difference that is not below zero: X above zero, Y below, and X - Y = v
gap_is : (v Y : ℕ) → gap (v + Y) Y ≡ v
gap_is v Y = omega arith

nonneg : (p n v Y : ℕ) → (p ≡ 0) ⊎ (n ≡ 0) → Within v ((p + Y) * P) ((n + (v + Y)) * P) → n ≡ 0
nonneg p n v Y (inl z) w = let a = w.below in omega arith
nonneg p n v Y (inr z) w = z

exact : (p v Y m : ℕ) → Within v ((p + Y) * m) ((0 + (v + Y)) * m) → Within v (p * m) (v * m)
exact p v Y m w = let a = w.above in let b = w.below in record { above = omega arith; below = omega arith }

pub record Total (r : Float) (v : ℕ) : Type 0 where
  pub pos : Pos r
  pub off : Within v (plus r * P) (v * P)

total : (r : Float) (X Y v : ℕ) → X ≡ v + Y → Sum r X Y → Total r v
total r X Y v e s =
    let w : Within v ((plus r + Y) * P) ((minus r + (v + Y)) * P) = subst (λ (g : ℕ). Within g ((plus r + Y) * P) ((minus r + (v + Y)) * P))
    (gap_is v Y) (subst (λ (z : ℕ). Within (gap z Y) ((plus r + Y) * P) ((minus r + z) * P)) e s.off) in
    let z : minus r ≡ 0 = nonneg (plus r) (minus r) v Y (one_part r) w in
    record {
      pos = record { whole = s.whole; none = z };
      off = exact (plus r) v Y P
          (subst (λ (n : ℕ). Within v ((plus r + Y) * P) ((n + (v + Y)) * P)) z w);
    }

pub add_pos : (x y : Float) → Pos x → Pos y → T (finite (add B x y)) → Total (add B x y) (plus x + plus y)
add_pos x y p q h = total (add B x y) (plus x + plus y) (minus x + minus y) (plus x + plus y)
    (go (plus x + plus y) (minus x) (minus y) p.none q.none) (add_model x y p.whole q.whole h)
  where
    go : (s m n : ℕ) → m ≡ 0 → n ≡ 0 → s ≡ s + (m + n)
    go s m n a b = omega arith

-- x - y = v
pub sub_pos : (x y : Float) (v : ℕ) → Whole x → Whole y → plus x + minus y ≡ v + (minus x + plus y) → T (finite (sub B x y)) → Total (sub B x y) v
sub_pos x y v p q h f = total (sub B x y) (plus x + minus y) (minus x + plus y) v h (sub_model x y p q f)

-- ---- a product with a factor that is not below zero
pub record Scaled (x y r : Float) : Type 0 where
  pub whole : Whole r
  pub above : Within (plus x * plus y + U * H) (plus r * U * P) (plus x * plus y * P)
  pub below : Within (minus x * plus y + U * H) (minus r * U * P) (minus x * plus y * P)

record Parts (s t k : Bool) (a b g E F : ℕ) : Type 0 where
  above : Within (cond s 0 a * cond t 0 b + E) (cond k 0 g * F * P) (cond s 0 a * cond t 0 b * P)
  below : Within (cond s a 0 * cond t 0 b + E) (cond k g 0 * F * P) (cond s a 0 * cond t 0 b * P)

nil_off : (a b E F : ℕ) → b ≡ 0 → Within (b * a + E) (0 * F * P) (b * a * P)
nil_off a b E F z = subst (λ (k : ℕ). Within (k * a + E) (0 * F * P) (k * a * P)) (sym z) (omega arith)

none_of : (a b E g F : ℕ) → b ≡ 0 → Within (a * b + E) (g * F * P) (a * b * P) → Within (0 * 0 + E) (g * F * P) (0 * 0 * P)
none_of a b E g F z w =
    let k : a * b ≡ 0 = ap (λ (k : ℕ). a * k) z ∙ zeros a in
    let v : Within (0 + E) (g * F * P) (0 * P) = subst (λ (k : ℕ). Within (k + E) (g * F * P) (k * P)) k w in
    v
  where
    zeros : (a : ℕ) → a * 0 ≡ 0
    zeros a = omega arith

split : (s t : Bool) (a b g E F : ℕ) → cond t b 0 ≡ 0 → Within (a * b + E) (g * F * P) (a * b * P) → Parts s t (unlike s t) a b g E F
split false false a b g E F z w = record { above = w; below = nil_off b 0 E F refl }
split true false a b g E F z w = record { above = nil_off b 0 E F refl; below = w }
split false true a b g E F z w = record { above = omega arith; below = none_of a b E g F z w }
split true true a b g E F z w = record { above = none_of a b E g F z w; below = omega arith }

pub mul_scaled : (x y : Float) → Whole x → Pos y → T (finite (mul B x y)) → Scaled x y (mul B x y)
mul_scaled x y p q h =
    let m = mul_model x y p q.whole h in
    let s : Parts (negative x) (negative y) (negative (mul B x y)) (in_units x) (in_units y) (in_units (mul B x y)) (U * H) U =
    subst (λ (k : Bool). Parts (negative x) (negative y) k (in_units x) (in_units y) (in_units (mul B x y)) (U * H) U) (sym m.sign)
    (split (negative x) (negative y) (in_units x) (in_units y) (in_units (mul B x y)) (U * H) U q.none m.off) in
    record { whole = m.whole; above = s.above; below = s.below }

small : (u g : ℕ) → 0 < u → g * u * P ≤ u * H → g ≡ 0
small u g o h =
    let k : g * P ≤ H = le_of_mul-le-mul_right {k = u} (omega arith) o in
    omega arith

no_more : (n b u g : ℕ) → 0 < u → n ≡ 0 → Within (n * b + u * H) (g * u * P) (n * b * P) → g ≡ 0
no_more n b u g o z w = small u g o (go (subst (λ (k : ℕ). Within (k * b + u * H) (g * u * P) (k * b * P)) z w).above)
  where
    go : g * u * P ≤ 0 * b * P + (0 * b + u * H) → g * u * P ≤ u * H
    go h = omega arith

pub mul-pos : (x y : Float) → Pos x → Pos y → T (finite (mul B x y)) → Pos (mul B x y)
mul-pos x y p q h =
    let s = mul_scaled x y p.whole q h in
    record { whole = s.whole; none = no_more (minus x) (plus y) U (minus (mul B x y)) U_pos p.none s.below }

-- ---- the quotient
pub record Ratio (x y r : Float) : Type 0 where
  pub pos : Pos r
  pub off : Within (plus x * U + plus y * H) (plus r * plus y * P) (plus x * U * P)

record Over (s t k : Bool) (a b g u : ℕ) : Type 0 where
  none : cond k g 0 ≡ 0
  off : Within (cond s 0 a * u + cond t 0 b * H) (cond k 0 g * cond t 0 b * P) (cond s 0 a * u * P)

over : (s t : Bool) (a b g u : ℕ) → cond s a 0 ≡ 0 → 0 < cond t 0 b → Within (a * u + b * H) (g * b * P) (a * u * P) → Over s t (unlike s t) a b g u
over s true a b g u z h w = absurd (lt_irrefl 0 h)
over false false a b g u z h w = record { none = refl; off = w }
over true false a b g u z h w =
    let v : Within (0 * u + b * H) (g * b * P) (0 * u * P) = subst (λ (k : ℕ). Within (k * u + b * H) (g * b * P) (k * u * P)) z w in
    record { none = small b g h (go v.above); off = omega arith }
  where
    go : g * b * P ≤ 0 * u * P + (0 * u + b * H) → g * b * P ≤ b * H
    go h = omega arith

pub mag_of : (x : Float) → Pos x → in_units x ≡ plus x
mag_of x p = go (in_units x) (plus x) (minus x) (parts x) p.none
  where
    go : (a b c : ℕ) → a ≡ b + c → c ≡ 0 → a ≡ b
    go a b c h k = omega arith

pub div_pos : (x y : Float) → Pos x → Pos y → 0 < plus y → T (finite (div B x y)) → Ratio x y (div B x y)
div_pos x y p q d h =
    let m = div_model x y p.whole q.whole (subst (λ (k : ℕ). 0 < k) (sym (mag_of y q)) d) h in
    let s : Over (negative x) (negative y) (negative (div B x y)) (in_units x) (in_units y) (in_units (div B x y)) U =
    subst (λ (k : Bool). Over (negative x) (negative y) k (in_units x) (in_units y) (in_units (div B x y)) U) (sym m.sign)
    (over (negative x) (negative y) (in_units x) (in_units y) (in_units (div B x y)) U p.none d m.off) in
    record { pos = record { whole = m.whole; none = s.none }; off = s.off }
