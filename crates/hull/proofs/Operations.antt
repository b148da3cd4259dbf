-- Sum, difference, product and quotient of doubles in units: how far the answer lies from the exact result. A sum errs by 2 ^ -53 of itself alone,
-- a product and a quotient by half a unit besides. Assumes nothing.
use mathlib.Core.Path.{◌≡◌, refl, sym, ap, ◌∙◌, subst}
use mathlib.Core.Logic.{◌⊎◌, inl, inr}
use Prim.Native.Nat.{ℕ, ◌+◌, ◌-◌, ◌*◌, ◌≤◌, ◌<◌}
use native.Mathlib.Nat.{le_of_mul-le-mul_right, mul-pos}
use native.Mathlib.Omega.{arith}
use mathlib.Core.Bool.{Bool, true, false, not, cond}
use lib.Dec.{T, ltb, ltb→lt, nltb→le, lit<}
use lib.Ieee.{Float, nan, inf, fin, unlike, round, sum, add, sub, neg, mul, div}
use lib.Ieee.Exact.{HasValue}
use lib.Ieee.Scale.{grid, finite}
use Rattle.meaning.specs.Root.{in_units}
use Rattle.hull.specs.Units.{U, negative, plus, minus}
use Rattle.hull.proofs.Rounding.{P, H, Within, units_off, whole-off}
use Rattle.meaning.proofs.Values.{B, U_pos, round_under, round_val, mag_is, mul_is, div_is, add_is}

-- finite, and a whole number of units
abbrev pub Whole : Float → Type 0
Whole x = HasValue x (negative x) (in_units x) U

sign_is : (x : Float) (s : Bool) (a c : ℕ) → HasValue x s a c → negative x ≡ s
sign_is nan s a c h = absurd h
sign_is (inf t) s a c h = absurd h
sign_is (fin t m e) s a c h = h.0

pub record Answer (x : Float) (s : Bool) (g : ℕ) : Type 0 where
  pub whole : Whole x
  pub sign : negative x ≡ s
  pub size : in_units x ≡ g

pub answer : (x : Float) (s : Bool) (g : ℕ) → HasValue x s g U → Answer x s g
answer x s g h =
    let a : in_units x ≡ g = mag_is x s g h in
    let b : negative x ≡ s = sign_is x s g U h in
    record { whole = subst (λ (z : Bool). HasValue x z (in_units x) U) (sym b) (subst (λ (z : ℕ). HasValue x s z U) (sym a) h); sign = b; size = a }

of_round : (x : Float) (s : Bool) (n d : ℕ) → x ≡ round B s n d → T (finite x) → Answer x s (grid B n d)
of_round x s n d e h = answer x s (grid B n d)
    (subst (λ (z : Float). HasValue z s (grid B n d) U) (sym e) (round_val B s n d (round_under B s n d (subst (λ (z : Float). T (finite z)) e h))))

-- ---- the product
cancel_mul : (u v g : ℕ) → 0 < u → Within (v * u + u * u * H) (g * (u * u) * P) (v * u * P) → Within (v + u * H) (g * u * P) (v * P)
cancel_mul u v g h w =
    let a = w.above in
    let b = w.below in
    record { above = le_of_mul-le-mul_right {k = u} (omega arith) h; below = le_of_mul-le-mul_right {k = u} (omega arith) h }

pub record Product (x y r : Float) : Type 0 where
  pub whole : Whole r
  pub sign : negative r ≡ unlike (negative x) (negative y)
  pub off : Within (in_units x * in_units y + U * H) (in_units r * U * P) (in_units x * in_units y * P)

pub mul_model : (x y : Float) → Whole x → Whole y → T (finite (mul B x y)) → Product x y (mul B x y)
mul_model x y p q h =
    let v = in_units x * in_units y in
    let a = of_round (mul B x y) (unlike (negative x) (negative y)) v (U * U)
    (mul_is B x y (negative x) (negative y) (in_units x) (in_units y) U U_pos p q) h in
    record {
      whole = a.whole;
      sign = a.sign;
      off = subst (λ (g : ℕ). Within (v + U * H) (g * U * P) (v * P)) (sym a.size)
          (cancel_mul U v (grid B v (U * U)) U_pos (units_off 53 (v * U) (U * U) (lit< tt) (mul-pos U_pos U_pos)));
    }

-- ---- the quotient
pub record Quotient (x y r : Float) : Type 0 where
  pub whole : Whole r
  pub sign : negative r ≡ unlike (negative x) (negative y)
  pub off : Within (in_units x * U + in_units y * H) (in_units r * in_units y * P) (in_units x * U * P)

pub div_model : (x y : Float) → Whole x → Whole y → 0 < in_units y → T (finite (div B x y)) → Quotient x y (div B x y)
div_model x y p q D h =
    let a = of_round (div B x y) (unlike (negative x) (negative y)) (in_units x) (in_units y)
    (div_is B x y (negative x) (negative y) (in_units x) (in_units y) U U_pos D p q) h in
    record {
      whole = a.whole;
      sign = a.sign;
      off = subst (λ (g : ℕ). Within (in_units x * U + in_units y * H) (g * in_units y * P) (in_units x * U * P)) (sym a.size)
          (units_off 53 (in_units x * U) (in_units y) (lit< tt) D);
    }

-- ---- the sum, and the difference: X above zero and Y below, so |X - Y| is (X - Y) + (Y - X)
abbrev pub gap : ℕ → ℕ → ℕ
gap X Y = X - Y + (Y - X)

pub record Sum (x : Float) (X Y : ℕ) : Type 0 where
  pub whole : Whole x
  pub off : Within (gap X Y) ((plus x + Y) * P) ((minus x + X) * P)

in_parts : (s : Bool) (g q X Y : ℕ) → Within q (g * P) (q * P) → X + cond s q 0 ≡ cond s 0 q + Y
    → Within (gap X Y) ((cond s 0 g + Y) * P) ((cond s g 0 + X) * P)
in_parts true g q X Y w e = let a = w.above in let b = w.below in record { above = omega arith; below = omega arith }
in_parts false g q X Y w e = let a = w.above in let b = w.below in record { above = omega arith; below = omega arith }

-- r is q units with the sign s, rounded
by_round : (r : Float) (s : Bool) (q X Y : ℕ) → r ≡ round B s q U → T (finite r) → X + cond s q 0 ≡ cond s 0 q + Y → Sum r X Y
by_round r s q X Y e h p =
    let a = of_round r s q U e h in
    let w : Within (gap X Y) ((cond s 0 (grid B q U) + Y) * P) ((cond s (grid B q U) 0 + X) * P) = in_parts s (grid B q U) q X Y
    (whole-off 53 q U (lit< tt) U_pos) p in
    record {
      whole = a.whole;
      off = subst (λ (z : Bool). Within (gap X Y) ((cond z 0 (in_units r) + Y) * P) ((cond z (in_units r) 0 + X) * P)) (sym a.sign)
          (subst (λ (z : ℕ). Within (gap X Y) ((cond s 0 z + Y) * P) ((cond s z 0 + X) * P)) (sym a.size) w);
    }

sum_model : (r : Float) (s t : Bool) (a b : ℕ) → r ≡ sum B s a t b U → T (finite r) → Sum r (cond s 0 a + cond t 0 b) (cond s a 0 + cond t b 0)
unfolding sum
sum_model r true true a b e h = by_round r true (a + b) (0 + 0) (a + b) e h (omega arith)
sum_model r false false a b e h = by_round r false (a + b) (a + b) (0 + 0) e h (omega arith)
sum_model r false true a b e h = go (ltb a b) (ltb→lt a b) (nltb→le a b) e
  where
    go : (k : Bool) → (T k → a < b) → (T (not k) → b ≤ a) → r ≡ cond k (round B true (b - a) U) (round B false (a - b) U) → Sum r (a + 0) (0 + b)
    go true l n e = let i : a < b = l tt in by_round r true (b - a) (a + 0) (0 + b) e h (omega arith)
    go false l n e = let i : b ≤ a = n tt in by_round r false (a - b) (a + 0) (0 + b) e h (omega arith)
sum_model r true false a b e h = go (ltb a b) (ltb b a) (ltb→lt a b) (nltb→le a b) (nltb→le b a) e
  where
    go : (k j : Bool) → (T k → a < b) → (T (not k) → b ≤ a) → (T (not j) → a ≤ b) → r ≡ cond k (round B false (b - a) U) (round B j (a - b) U)
        → Sum r (0 + b) (a + 0)
    go true j l n m e = let i : a < b = l tt in by_round r false (b - a) (0 + b) (a + 0) e h (omega arith)
    go false true l n m e = let i : b ≤ a = n tt in by_round r true (a - b) (0 + b) (a + 0) e h (omega arith)
    go false false l n m e = let i : b ≤ a = n tt in let k : a ≤ b = m tt in by_round r false (a - b) (0 + b) (a + 0) e h (omega arith)

pub add_model : (x y : Float) → Whole x → Whole y → T (finite (add B x y)) → Sum (add B x y) (plus x + plus y) (minus x + minus y)
add_model x y p q h = sum_model (add B x y) (negative x) (negative y) (in_units x) (in_units y)
    (add_is B x y (negative x) (negative y) (in_units x) (in_units y) U U_pos p q) h

-- ---- the difference
pub neg_has : (x : Float) (s : Bool) (a c : ℕ) → HasValue x s a c → HasValue (neg x) (not s) a c
unfolding neg
neg_has nan s a c h = absurd h
neg_has (inf t) s a c h = absurd h
neg_has (fin t m e) s a c h = (ap not h.0, h.1)

pub sub_opened : (x y : Float) → sub B x y ≡ add B x (neg y)
unfolding sub
sub_opened x y = refl

swap : (s : Bool) (a : ℕ) → (cond (not s) 0 a ≡ cond s a 0) × (cond (not s) a 0 ≡ cond s 0 a)
swap true a = (refl, refl)
swap false a = (refl, refl)

pub sub_model : (x y : Float) → Whole x → Whole y → T (finite (sub B x y)) → Sum (sub B x y) (plus x + minus y) (minus x + plus y)
sub_model x y p q h =
    let e = sub_opened x y ∙ add_is B x (neg y) (negative x) (not (negative y)) (in_units x) (in_units y) U U_pos p
    (neg_has y (negative y) (in_units y) U q) in
    let w = sum_model (sub B x y) (negative x) (not (negative y)) (in_units x) (in_units y) e h in
    let k = swap (negative y) (in_units y) in
    subst (λ (z : ℕ). Sum (sub B x y) (plus x + z) (minus x + plus y)) k.0
    (subst (λ (z : ℕ). Sum (sub B x y) (plus x + cond (not (negative y)) 0 (in_units y)) (minus x + z)) k.1 w)

-- ---- one part of a value is zero, and the other its size
pub one_part : (x : Float) → (plus x ≡ 0) ⊎ (minus x ≡ 0)
one_part x = go (negative x)
  where
    go : (s : Bool) → (cond s 0 (in_units x) ≡ 0) ⊎ (cond s (in_units x) 0 ≡ 0)
    go true = inl refl
    go false = inr refl

pub parts : (x : Float) → in_units x ≡ plus x + minus x
parts x = go (negative x)
  where
    go : (s : Bool) → in_units x ≡ cond s 0 (in_units x) + cond s (in_units x) 0
    go true = omega arith
    go false = omega arith
