-- The order of doubles: `lt`, `le` and `eq` of `lib.Ieee` on every value. Up to three values that are no NaN stand at whole numbers, each a
-- number with a sign over one denominator and an infinity past all of them, and what compares them compares these. Assumes nothing.
use mathlib.Core.Path.{◌≡◌, refl, sym, ap, ◌∙◌}
use mathlib.Core.Bool.{Bool, true, false, not, ◌&&◌, ◌||◌, beq, cond, true≢false}
use mathlib.Core.Logic.{◌⊎◌, inl, inr}
use Prim.Native.Nat.{ℕ, ◌+◌, ◌*◌, ◌≤◌, ◌<◌}
use native.Mathlib.Nat.{mul_assoc, mul_comm, mul_left_comm, mul_right_comm, mul-pos, mul-lt-mul_of_pos_right, lt_of_mul-lt-mul_right, eq_of_mul-eq-mul_right}
use native.Mathlib.Omega.{arith}
use borrow.Author.Tests.{ltb-true, ltb-false, leb-true, leb-false, eqb-true, lt-ltb, le-ltb, le-leb, lt-leb, eq-eqb, ne_eqb}
use lib.Dec.{ltb, leb, eqb}
use lib.Ieee.{Float, nan, inf, fin, up, down, below, level, lt, eq, le, is_nan}
use lib.Ieee.Fits.{down_pos}
use lib.Ieee.Scale.{finite}
use Rattle.meaning.proofs.Tests.{no, same_test, and_left, and_right, and_both, or_false}

-- ---- tests

either : (a b : Bool) → a || b ≡ true → (a ≡ true) ⊎ (b ≡ true)
either true b h = inl refl
either false b h = inr h

ltb_same : (a b c d : ℕ) → (a < b → c < d) → (c < d → a < b) → ltb a b ≡ ltb c d
ltb_same a b c d h g = same_test (ltb a b) (ltb c d) (λ e. lt-ltb c d (h (ltb-true a b e))) (λ e. lt-ltb a b (g (ltb-true c d e)))

eqb_same : (a b c d : ℕ) → (a ≡ b → c ≡ d) → (c ≡ d → a ≡ b) → eqb a b ≡ eqb c d
eqb_same a b c d h g = same_test (eqb a b) (eqb c d) (λ e. eq-eqb c d (h (eqb-true a b e))) (λ e. eq-eqb a b (g (eqb-true c d e)))

-- ---- a NaN: every comparison with it is false

pub finite_no_nan : (x : Float) → finite x ≡ true → is_nan x ≡ false
unfolding is_nan
finite_no_nan nan h = sym h
finite_no_nan (inf s) h = refl
finite_no_nan (fin s m e) h = refl

pub nan_lt : (x : Float) → lt nan x ≡ false
unfolding lt
nan_lt x = refl

pub lt_nan : (x : Float) → lt x nan ≡ false
unfolding lt
lt_nan nan = refl
lt_nan (inf s) = refl
lt_nan (fin s m e) = refl

pub nan_eq : (x : Float) → eq nan x ≡ false
unfolding eq
nan_eq x = refl

pub eq_nan : (x : Float) → eq x nan ≡ false
unfolding eq
eq_nan nan = refl
eq_nan (inf s) = refl
eq_nan (fin s m e) = refl

pub nan_le : (x : Float) → le nan x ≡ false
unfolding le
nan_le x = refl

pub le_nan : (x : Float) → le x nan ≡ false
unfolding le
le_nan x = rw (lt_nan x, eq_nan x)

-- so what compares is no NaN
told : (f : Float → Bool) → f nan ≡ false → (x : Float) → f x ≡ true → is_nan x ≡ false
unfolding is_nan
told f h nan g = no (sym h ∙ g)
told f h (inf s) g = refl
told f h (fin s m e) g = refl

pub lt_left : (x y : Float) → lt x y ≡ true → is_nan x ≡ false
lt_left x y = told (λ z. lt z y) (nan_lt y) x

pub lt_right : (x y : Float) → lt x y ≡ true → is_nan y ≡ false
lt_right x y = told (lt x) (lt_nan x) y

pub eq_left : (x y : Float) → eq x y ≡ true → is_nan x ≡ false
eq_left x y = told (λ z. eq z y) (nan_eq y) x

pub eq_right : (x y : Float) → eq x y ≡ true → is_nan y ≡ false
eq_right x y = told (eq x) (eq_nan x) y

pub le_left : (x y : Float) → le x y ≡ true → is_nan x ≡ false
le_left x y = told (λ z. le z y) (nan_le y) x

pub le_right : (x y : Float) → le x y ≡ true → is_nan y ≡ false
le_right x y = told (le x) (le_nan x) y

-- ---- ±a beside ±b, as whole numbers: what is positive on one side and negative on the other, summed

abbrev plus : Bool → ℕ → ℕ
plus s a = cond s 0 a

abbrev minus : Bool → ℕ → ℕ
minus s a = cond s a 0

pub below_is : (s t : Bool) (a b : ℕ) → below s a t b ≡ ltb (plus s a + minus t b) (plus t b + minus s a)
below_is false false a b = ltb_same a b (a + 0) (b + 0) (λ h. omega arith) (λ h. omega arith)
below_is false true a b = sym (le-ltb (a + b) (0 + 0) (omega arith))
below_is true false a b = ltb_same 0 (a + b) (0 + 0) (b + a) (λ h. omega arith) (λ h. omega arith)
below_is true true a b = ltb_same b a (0 + b) (0 + a) (λ h. omega arith) (λ h. omega arith)

level_is : (s t : Bool) (a b : ℕ) → level s a t b ≡ eqb (plus s a + minus t b) (plus t b + minus s a)
level_is s t a b =
    same_test (level s a t b) (eqb (plus s a + minus t b) (plus t b + minus s a))
    (λ h. eq-eqb _ _ (to s t (eqb-true a b (and_left (eqb a b) _ h)) (and_right (eqb a b) _ h))) (λ h. from s t (eqb-true _ _ h))
  where
    to : (s t : Bool) → a ≡ b → beq s t || eqb a 0 ≡ true → plus s a + minus t b ≡ plus t b + minus s a
    to false false e h = omega arith
    to false true e h = omega (arith, eqb-true a 0 h)
    to true false e h = omega (arith, eqb-true a 0 h)
    to true true e h = omega arith

    from : (s t : Bool) → plus s a + minus t b ≡ plus t b + minus s a → level s a t b ≡ true
    from false false e = and_both (eqb a b) true (eq-eqb a b (omega arith)) refl
    from false true e = and_both (eqb a b) (eqb a 0) (eq-eqb a b (omega arith)) (eq-eqb a 0 (omega arith))
    from true false e = and_both (eqb a b) (eqb a 0) (eq-eqb a b (omega arith)) (eq-eqb a 0 (omega arith))
    from true true e = and_both (eqb a b) true (eq-eqb a b (omega arith)) refl

-- ---- a value in parts of 1 / D

-- the sign of x, and that its size is k such parts; an infinity is K of them, more than any number that is compared with it
abbrev sign : Float → Bool
sign nan = false
sign (inf s) = s
sign (fin s m e) = s

abbrev Sized : ℕ → ℕ → Float → ℕ → Type 0
Sized D K nan k = ⊥
Sized D K (inf s) k = k ≡ K
Sized D K (fin s m e) k = (k * down e ≡ m * up e * D) × (k < K)

-- X / Y and a / b are one ratio
module _ (X Y a b D F : ℕ) (p : X * D ≡ a * F) (q : Y * D ≡ b * F) (dp : 0 < D) (fp : 0 < F) where
  pub ratio_lt : ltb X Y ≡ ltb a b
  ratio_lt =
      ltb_same X Y a b
      (λ h. lt_of_mul-lt-mul_right F (rw (p, q) at (mul-lt-mul_of_pos_right h dp)))
      (λ h. lt_of_mul-lt-mul_right D (rw (← p, ← q) at (mul-lt-mul_of_pos_right h fp)))

  ratio_eq : eqb X Y ≡ eqb a b
  ratio_eq =
      eqb_same X Y a b
      (λ h. eq_of_mul-eq-mul_right F fp a b (sym p ∙ ap (λ (z : ℕ). z * D) h ∙ q))
      (λ h. eq_of_mul-eq-mul_right D dp X Y (p ∙ ap (λ (z : ℕ). z * F) h ∙ sym q))

module _ (X Y a b D F : ℕ) (p : X * D ≡ a * F) (q : Y * D ≡ b * F) (dp : 0 < D) (fp : 0 < F) where
  pub below_ratio : (s t : Bool) → below s X t Y ≡ below s a t b
  below_ratio false false = ratio_lt X Y a b D F p q dp fp
  below_ratio false true = refl
  below_ratio true false = ratio_lt 0 (X + Y) 0 (a + b) D F (omega arith) (omega arith) dp fp
  below_ratio true true = ratio_lt Y X b a D F q p dp fp

  level_ratio : (s t : Bool) → level s X t Y ≡ level s a t b
  level_ratio s t =
      ap (λ (z : Bool). z && (beq s t || eqb X 0)) (ratio_eq X Y a b D F p q dp fp)
      ∙ ap (λ (z : Bool). eqb a b && (beq s t || z)) (ratio_eq X 0 a 0 D F p (omega arith) dp fp)

module _ (D K : ℕ) (dp : 0 < D) (kp : 0 < K) where
  crossed : (M k e d : ℕ) → k * e ≡ M * D → M * d * D ≡ k * (e * d)
  crossed M k e d h = mul_right_comm M d D ∙ ap (λ (z : ℕ). z * d) (sym h) ∙ mul_assoc k e d

  lt_sized : (x y : Float) (a b : ℕ) → Sized D K x a → Sized D K y b → lt x y ≡ below (sign x) a (sign y) b
  unfolding lt
  lt_sized nan y a b p q = absurd p
  lt_sized (inf s) nan a b p q = absurd q
  lt_sized (fin s m e) nan a b p q = absurd q
  lt_sized (inf s) (inf t) a b p q = by s t
    where
      by : (s t : Bool) → (s && not t) ≡ below s a t b
      by false false = sym (le-ltb a b (omega arith))
      by false true = refl
      by true false = sym (lt-ltb 0 (a + b) (omega arith))
      by true true = sym (le-ltb b a (omega arith))
  lt_sized (inf s) (fin t n d) a b p q = by s t
    where
      by : (s t : Bool) → s ≡ below s a t b
      by false false = sym (le-ltb a b (omega arith))
      by false true = refl
      by true false = sym (lt-ltb 0 (a + b) (omega arith))
      by true true = sym (lt-ltb b a (omega arith))
  lt_sized (fin s m e) (inf t) a b p q = by s t
    where
      by : (s t : Bool) → not t ≡ below s a t b
      by false false = sym (lt-ltb a b (omega arith))
      by false true = refl
      by true false = sym (lt-ltb 0 (a + b) (omega arith))
      by true true = sym (le-ltb b a (omega arith))
  lt_sized (fin s m e) (fin t n d) a b p q =
      below_ratio (m * up e * down d) (n * up d * down e) a b D (down e * down d) (crossed (m * up e) a (down e) (down d) p.0)
      (crossed (n * up d) b (down d) (down e) q.0 ∙ ap (λ (z : ℕ). b * z) (mul_comm (down d) (down e))) dp (mul-pos (down_pos e) (down_pos d)) s t

  eq_sized : (x y : Float) (a b : ℕ) → Sized D K x a → Sized D K y b → eq x y ≡ level (sign x) a (sign y) b
  unfolding eq
  eq_sized nan y a b p q = absurd p
  eq_sized (inf s) nan a b p q = absurd q
  eq_sized (fin s m e) nan a b p q = absurd q
  eq_sized (inf s) (inf t) a b p q = rw (eq-eqb a b (p ∙ sym q), ne_eqb a 0 (λ z. omega arith)) (sym (or_false (beq s t)))
  eq_sized (inf s) (fin t n d) a b p q = rw (ne_eqb a b (λ z. omega arith))
  eq_sized (fin s m e) (inf t) a b p q = rw (ne_eqb a b (λ z. omega arith))
  eq_sized (fin s m e) (fin t n d) a b p q =
      level_ratio (m * up e * down d) (n * up d * down e) a b D (down e * down d) (crossed (m * up e) a (down e) (down d) p.0)
      (crossed (n * up d) b (down d) (down e) q.0 ∙ ap (λ (z : ℕ). b * z) (mul_comm (down d) (down e))) dp (mul-pos (down_pos e) (down_pos d)) s t

-- ---- three values at whole numbers

-- x and y compare as P and Q do
record Alike (x y : Float) (P Q : ℕ) : Type 0 where
  lt_is : lt x y ≡ ltb P Q
  eq_is : eq x y ≡ eqb P Q

le_is : {x y : Float} {P Q : ℕ} → Alike x y P Q → le x y ≡ leb P Q
unfolding le
le_is {x} {y} {P} {Q} a = rw (a.lt_is, a.eq_is) (same_test (ltb P Q || eqb P Q) (leb P Q) to from)
  where
    to : ltb P Q || eqb P Q ≡ true → leb P Q ≡ true
    to h = elim (either (ltb P Q) (eqb P Q) h) [ inl l ↦ le-leb P Q (omega (arith, ltb-true P Q l)) | inr e ↦ le-leb P Q (omega (arith, eqb-true P Q e)) ]

    from : leb P Q ≡ true → ltb P Q || eqb P Q ≡ true
    from h = by (ltb P Q) refl
      where
        by : (b : Bool) → ltb P Q ≡ b → b || eqb P Q ≡ true
        by true e = refl
        by false e = eq-eqb P Q (omega (arith, leb-true P Q h, ltb-false P Q e))

module _ {x y : Float} {P Q : ℕ} (a : Alike x y P Q) where
  of_lt : lt x y ≡ true → P < Q
  of_lt h = ltb-true P Q (sym a.lt_is ∙ h)

  of_not_lt : lt x y ≡ false → Q ≤ P
  of_not_lt h = ltb-false P Q (sym a.lt_is ∙ h)

  of_le : le x y ≡ true → P ≤ Q
  of_le h = leb-true P Q (sym (le_is a) ∙ h)

  of_not_le : le x y ≡ false → Q < P
  of_not_le h = leb-false P Q (sym (le_is a) ∙ h)

  of_eq : eq x y ≡ true → P ≡ Q
  of_eq h = eqb-true P Q (sym a.eq_is ∙ h)

  to_lt : P < Q → lt x y ≡ true
  to_lt h = a.lt_is ∙ lt-ltb P Q h

  to_not_lt : Q ≤ P → lt x y ≡ false
  to_not_lt h = a.lt_is ∙ le-ltb P Q h

  to_le : P ≤ Q → le x y ≡ true
  to_le h = le_is a ∙ le-leb P Q h

  to_not_le : Q < P → le x y ≡ false
  to_not_le h = le_is a ∙ lt-leb P Q h

  to_eq : P ≡ Q → eq x y ≡ true
  to_eq h = a.eq_is ∙ eq-eqb P Q h

-- a number is num / den
abbrev num : Float → ℕ
num nan = 0
num (inf s) = 0
num (fin s m e) = m * up e

abbrev den : Float → ℕ
den nan = 1
den (inf s) = 1
den (fin s m e) = down e

den_pos : (x : Float) → 0 < den x
den_pos nan = omega arith
den_pos (inf s) = omega arith
den_pos (fin s m e) = down_pos e

-- the size of x over the denominator den x * r
abbrev size_at : Float → ℕ → ℕ → ℕ
size_at nan r K = 0
size_at (inf s) r K = K
size_at (fin s m e) r K = m * up e * r

sized : (x : Float) (r D K : ℕ) → is_nan x ≡ false → den x * r ≡ D → num x * r < K → Sized D K x (size_at x r K)
unfolding is_nan
sized nan r D K n h g = true≢false n
sized (inf s) r D K n h g = refl
sized (fin s m e) r D K n h g = (mul_assoc (m * up e) r (down e) ∙ ap (λ (z : ℕ). m * up e * z) (mul_comm r (down e) ∙ h), g)

-- three values, each at the difference of two whole numbers
record Three (x y z : Float) : Type 0 where
  px : ℕ
  mx : ℕ
  py : ℕ
  my : ℕ
  pz : ℕ
  mz : ℕ
  xy : Alike x y (px + my) (py + mx)
  yx : Alike y x (py + mx) (px + my)
  yz : Alike y z (py + mz) (pz + my)
  xz : Alike x z (px + mz) (pz + mx)

alike : (D K : ℕ) → 0 < D → 0 < K → (x y : Float) (a b : ℕ) → Sized D K x a → Sized D K y b
    → Alike x y (plus (sign x) a + minus (sign y) b) (plus (sign y) b + minus (sign x) a)
alike D K dp kp x y a b p q =
    record {
      lt_is = lt_sized D K dp kp x y a b p q ∙ below_is (sign x) (sign y) a b;
      eq_is = eq_sized D K dp kp x y a b p q ∙ level_is (sign x) (sign y) a b;
    }

three : (x y z : Float) → is_nan x ≡ false → is_nan y ≡ false → is_nan z ≡ false → Three x y z
three x y z nx ny nz =
    let D = den x * den y * den z in
    let K = num x * (den y * den z) + num y * (den x * den z) + num z * (den x * den y) + 1 in
    let a = size_at x (den y * den z) K in
    let b = size_at y (den x * den z) K in
    let c = size_at z (den x * den y) K in
    let dp : 0 < D = mul-pos (mul-pos (den_pos x) (den_pos y)) (den_pos z) in
    let kp : 0 < K = omega arith in
    let p : Sized D K x a = sized x (den y * den z) D K nx (sym (mul_assoc (den x) (den y) (den z))) (omega arith) in
    let q : Sized D K y b = sized y (den x * den z) D K ny (mul_left_comm (den y) (den x) (den z) ∙ sym (mul_assoc (den x) (den y) (den z))) (omega arith) in
    let r : Sized D K z c = sized z (den x * den y) D K nz (mul_comm (den z) (den x * den y)) (omega arith) in
    record {
      px = plus (sign x) a;
      mx = minus (sign x) a;
      py = plus (sign y) b;
      my = minus (sign y) b;
      pz = plus (sign z) c;
      mz = minus (sign z) c;
      xy = alike D K dp kp x y a b p q;
      yx = alike D K dp kp y x b a q p;
      yz = alike D K dp kp y z b c q r;
      xz = alike D K dp kp x z a c p r;
    }

-- ---- the laws

-- two values
module _ (x y : Float) where
  two : is_nan x ≡ false → is_nan y ≡ false → Three x y y
  two p q = three x y y p q q

  pub lt_le : lt x y ≡ true → le x y ≡ true
  lt_le h = let t = two (lt_left x y h) (lt_right x y h) in to_le t.xy (omega (arith, of_lt t.xy h))

  pub eq_le : eq x y ≡ true → le x y ≡ true
  eq_le h = let t = two (eq_left x y h) (eq_right x y h) in to_le t.xy (omega (arith, of_eq t.xy h))

  pub eq_sym : eq x y ≡ true → eq y x ≡ true
  eq_sym h = let t = two (eq_left x y h) (eq_right x y h) in to_eq t.yx (omega (arith, of_eq t.xy h))

  pub le_le_eq : le x y ≡ true → le y x ≡ true → eq x y ≡ true
  le_le_eq h g = let t = two (le_left x y h) (le_right x y h) in to_eq t.xy (omega (arith, of_le t.xy h, of_le t.yx g))

  pub lt_not_le : lt x y ≡ true → le y x ≡ false
  lt_not_le h = let t = two (lt_left x y h) (lt_right x y h) in to_not_le t.yx (omega (arith, of_lt t.xy h))

  pub le_not_lt : le x y ≡ true → lt y x ≡ false
  le_not_lt h = let t = two (le_left x y h) (le_right x y h) in to_not_lt t.yx (omega (arith, of_le t.xy h))

  -- of two values that are no NaN
  pub not_lt_le : is_nan x ≡ false → is_nan y ≡ false → lt x y ≡ false → le y x ≡ true
  not_lt_le p q h = let t = two p q in to_le t.yx (omega (arith, of_not_lt t.xy h))

  pub not_le_lt : is_nan x ≡ false → is_nan y ≡ false → le x y ≡ false → lt y x ≡ true
  not_le_lt p q h = let t = two p q in to_lt t.yx (omega (arith, of_not_le t.xy h))

pub eq_refl : (x : Float) → is_nan x ≡ false → eq x x ≡ true
unfolding three
eq_refl x p = to_eq (three x x x p p p).xy refl

pub le_refl : (x : Float) → is_nan x ≡ false → le x x ≡ true
le_refl x p = eq_le x x (eq_refl x p)

-- three values
module _ (x y z : Float) where
  pub lt_le_trans : lt x y ≡ true → le y z ≡ true → lt x z ≡ true
  lt_le_trans h g = let t = three x y z (lt_left x y h) (le_left y z g) (le_right y z g) in to_lt t.xz (omega (arith, of_lt t.xy h, of_le t.yz g))

  pub le_lt_trans : le x y ≡ true → lt y z ≡ true → lt x z ≡ true
  le_lt_trans h g = let t = three x y z (le_left x y h) (lt_left y z g) (lt_right y z g) in to_lt t.xz (omega (arith, of_le t.xy h, of_lt t.yz g))

  pub le_trans : le x y ≡ true → le y z ≡ true → le x z ≡ true
  le_trans h g = let t = three x y z (le_left x y h) (le_left y z g) (le_right y z g) in to_le t.xz (omega (arith, of_le t.xy h, of_le t.yz g))

  pub eq_trans : eq x y ≡ true → eq y z ≡ true → eq x z ≡ true
  eq_trans h g = let t = three x y z (eq_left x y h) (eq_left y z g) (eq_right y z g) in to_eq t.xz (omega (arith, of_eq t.xy h, of_eq t.yz g))

pub lt_trans : (x y z : Float) → lt x y ≡ true → lt y z ≡ true → lt x z ≡ true
lt_trans x y z h g = lt_le_trans x y z h (lt_le y z g)

-- a value is not below itself
pub lt_irrefl : (x : Float) → lt x x ≡ true → ⊥
lt_irrefl x h = true≢false (sym h ∙ le_not_lt x x (lt_le x x h))
