-- The kit's operations on finite doubles whose values are given as fractions over one denominator; and that a finite result had finite operands.
-- Assumes nothing.
use mathlib.Core.Path.{◌≡◌, sym, ap, ◌∙◌, subst}
use Prim.Native.Nat.{ℕ, suc, ◌+◌, ◌-◌, ◌*◌, ◌/◌, ◌^◌, ◌<◌}
use native.Mathlib.Nat.{mul_comm, mul-pos, mul-div_cancel, mul-mul-mul_comm, eq_of_mul-eq-mul_right, zero-mul, mul-sub}
use native.Mathlib.Omega.{arith}
use mathlib.Core.Bool.{Bool, true, false, ◌&&◌, beq, cond}
use lib.Dec.{T, ltb, eqb, ltb→lt, eqb→eq}
use lib.Pow.{pow_pos}
use lib.Ieee.{Float, nan, inf, fin, Format, binary64, prec, low, up, down, unlike, odd, units, round, sum, add, mul, div}
use lib.Ieee.Fits.{round_is, down_pos}
use lib.Ieee.Exact.{HasValue, units_val}
use lib.Ieee.Order.{drop, kept}
use lib.Ieee.Scale.{round_same, grid, overflow, finite}
use lib.Ieee.Positive.{first_pos}
use Rattle.meaning.specs.Root.{in_units}
use Rattle.meaning.proofs.Order.{ratio_lt}

abbrev pub B : Format
B = binary64

pub U_pos : 0 < 2 ^ 1074
U_pos = pow_pos 1074

-- ---- `round` with either sign
units_under : (f : Format) (s : Bool) (q k : ℕ) → T (finite (units f s q k)) → q * 2 ^ k < overflow f
unfolding units
units_under f s q k = go (ltb (q * 2 ^ k) (overflow f)) (ltb→lt (q * 2 ^ k) (overflow f))
  where
    go : (b : Bool) → (T b → q * 2 ^ k < overflow f) → T (finite (cond b (odd (suc (prec f)) s q k (low f)) (inf s))) → q * 2 ^ k < overflow f
    go true h t = h tt
    go false h t = absurd t

pub round_under : (f : Format) (s : Bool) (a c : ℕ) → T (finite (round f s a c)) → grid f a c < overflow f
round_under f s a c t = units_under f s (kept (prec f) (a * 2 ^ low f) c) (drop (prec f) (a * 2 ^ low f) c)
    (subst (λ (z : Float). T (finite z)) (round_is f s a c) t)

pub round_val : (f : Format) (s : Bool) (a c : ℕ) → grid f a c < overflow f → HasValue (round f s a c) s (grid f a c) (2 ^ low f)
round_val f s a c h = subst (λ (z : Float). HasValue z s (grid f a c) (2 ^ low f)) (sym (round_is f s a c))
    (units_val f s (kept (prec f) (a * 2 ^ low f) c) (drop (prec f) (a * 2 ^ low f) c) h)

pub value_finite : (x : Float) (s : Bool) (a c : ℕ) → HasValue x s a c → T (finite x)
value_finite nan s a c h = absurd h
value_finite (inf t) s a c h = absurd h
value_finite (fin t m e) s a c h = tt

-- ---- the size of a value
pub mag_is : (x : Float) (s : Bool) (a : ℕ) → HasValue x s a (2 ^ 1074) → in_units x ≡ a
unfolding in_units
mag_is nan s a h = absurd h
mag_is (inf t) s a h = absurd h
mag_is (fin t m e) s a h = ap (λ (z : ℕ). z / down e) h.1 ∙ mul-div_cancel a (down_pos e)

-- ---- the operations, on values given as fractions over one c
pub mul_is : (f : Format) (x y : Float) (s t : Bool) (a b c : ℕ) → 0 < c → HasValue x s a c → HasValue y t b c
    → mul f x y ≡ round f (unlike s t) (a * b) (c * c)
unfolding mul
mul_is f nan y s t a b c C p q = absurd p
mul_is f (inf s') y s t a b c C p q = absurd p
mul_is f (fin s' m e) nan s t a b c C p q = absurd q
mul_is f (fin s' m e) (inf t') s t a b c C p q = absurd q
mul_is f (fin s' m e) (fin t' n d) s t a b c C p q =
    ap (λ (z : Bool). round f (unlike z t') (m * up e * (n * up d)) (down e * down d)) p.0
    ∙ ap (λ (z : Bool). round f (unlike s z) (m * up e * (n * up d)) (down e * down d)) q.0
    ∙ round_same f (unlike s t) (m * up e * (n * up d)) (down e * down d) (a * b) (c * c) (mul-pos (down_pos e) (down_pos d)) (mul-pos C C)
    (mul-mul-mul_comm (m * up e) (n * up d) c c ∙ ap (λ (z : ℕ). z * (n * up d * c)) p.1 ∙ ap (λ (z : ℕ). a * down e * z) q.1
    ∙ mul-mul-mul_comm a (down e) b (down d))

cross : (m n a b c de dd : ℕ) → 0 < c → m * c ≡ a * de → n * c ≡ b * dd → m * dd * b ≡ a * (n * de)
cross m n a b c de dd C p q =
    let x = ap (λ (z : ℕ). z * (dd * b)) p in
    let y = ap (λ (z : ℕ). z * (a * de)) q in
    eq_of_mul-eq-mul_right c C (m * dd * b) (a * (n * de)) (omega arith)

zero_of : (n u b c d : ℕ) → 0 < b → 0 < d → n * u * c ≡ b * d → n ≡ 0 → ⊥
zero_of n u b c d B D e z =
    let p : 0 < b * d = mul-pos B D in
    let k : n * u * c ≡ 0 = ap (λ (w : ℕ). w * u * c) z ∙ ap (λ (w : ℕ). w * c) (zero-mul u) ∙ zero-mul c in
    omega arith

pub div_is : (f : Format) (x y : Float) (s t : Bool) (a b c : ℕ) → 0 < c → 0 < b → HasValue x s a c → HasValue y t b c
    → div f x y ≡ round f (unlike s t) a b
unfolding div
div_is f nan y s t a b c C D p q = absurd p
div_is f (inf s') y s t a b c C D p q = absurd p
div_is f (fin s' m e) nan s t a b c C D p q = absurd q
div_is f (fin s' m e) (inf t') s t a b c C D p q = absurd q
div_is f (fin s' m e) (fin t' n d) s t a b c C D p q = go (eqb n 0) (eqb→eq n 0) (zero_of n (up d) b c (down d) D (down_pos d) q.1)
  where
    go : (k : Bool) → (T k → n ≡ 0) → (n ≡ 0 → ⊥)
        → cond k (cond (eqb m 0) nan (inf (unlike s' t'))) (round f (unlike s' t') (m * up e * down d) (n * up d * down e)) ≡ round f (unlike s t) a b
    go true h g = absurd (g (h tt))
    go false h g =
        ap (λ (z : Bool). round f (unlike z t') (m * up e * down d) (n * up d * down e)) p.0
        ∙ ap (λ (z : Bool). round f (unlike s z) (m * up e * down d) (n * up d * down e)) q.0
        ∙ round_same f (unlike s t) (m * up e * down d) (n * up d * down e) a b
        (mul-pos (first_pos (n * up d) c (subst (λ (z : ℕ). 0 < z) (sym q.1) (mul-pos D (down_pos d)))) (down_pos e)) D
        (cross (m * up e) (n * up d) a b c (down e) (down d) C p.1 q.1)

-- ---- the sum
less_same : (a b c a' b' c' : ℕ) → a * c' ≡ a' * c → b * c' ≡ b' * c → (a - b) * c' ≡ (a' - b') * c
less_same a b c a' b' c' p q = mul_comm (a - b) c' ∙ mul-sub c' a b ∙ middle ∙ sym (mul_comm (a' - b') c ∙ mul-sub c a' b')
  where
    middle : c' * a - c' * b ≡ c * a' - c * b'
    middle = omega arith

plus_same : (a b c a' b' c' : ℕ) → a * c' ≡ a' * c → b * c' ≡ b' * c → (a + b) * c' ≡ (a' + b') * c
plus_same a b c a' b' c' p q = omega arith

sum_same : (f : Format) (s t : Bool) (a b c a' b' c' : ℕ) → 0 < c → 0 < c' → a * c' ≡ a' * c → b * c' ≡ b' * c → sum f s a t b c ≡ sum f s a' t b' c'
unfolding sum
sum_same f s t a b c a' b' c' C C' p q =
    let e1 : round f s (a + b) c ≡ round f s (a' + b') c' = round_same f s (a + b) c (a' + b') c' C C' (plus_same a b c a' b' c' p q) in
    let e2 : round f t (b - a) c ≡ round f t (b' - a') c' = round_same f t (b - a) c (b' - a') c' C C' (less_same b a c b' a' c' q p) in
    let e3 : (z : Bool) → round f z (a - b) c ≡ round f z (a' - b') c' = λ z. round_same f z (a - b) c (a' - b') c' C C'
    (less_same a b c a' b' c' p q) in
    let l1 : ltb a b ≡ ltb a' b' = ratio_lt a b a' b' c' c p q C' C in
    let l2 : ltb b a ≡ ltb b' a' = ratio_lt b a b' a' c' c q p C' C in
    let e4 : round f (s && ltb b a) (a - b) c ≡ round f (s && ltb b' a') (a' - b') c' = e3 (s && ltb b a) ∙ ap
    (λ (z : Bool). round f (s && z) (a' - b') c') l2 in
    ap (λ (z : Float). cond (beq s t) z (cond (ltb a b) (round f t (b - a) c) (round f (s && ltb b a) (a - b) c))) e1
    ∙ ap (λ (z : Float). cond (beq s t) (round f s (a' + b') c') (cond (ltb a b) z (round f (s && ltb b a) (a - b) c))) e2
    ∙ ap (λ (z : Float). cond (beq s t) (round f s (a' + b') c') (cond (ltb a b) (round f t (b' - a') c') z)) e4
    ∙ ap (λ (z : Bool). cond (beq s t) (round f s (a' + b') c') (cond z (round f t (b' - a') c') (round f (s && ltb b' a') (a' - b') c'))) l1

pub left_part : (m a c de dd : ℕ) → m * c ≡ a * de → m * dd * c ≡ a * (de * dd)
left_part m a c de dd p = let x = ap (λ (z : ℕ). z * dd) p in omega arith

pub right_part : (n b c de dd : ℕ) → n * c ≡ b * dd → n * de * c ≡ b * (de * dd)
right_part n b c de dd p = let x = ap (λ (z : ℕ). z * de) p in omega arith

pub add_is : (f : Format) (x y : Float) (s t : Bool) (a b c : ℕ) → 0 < c → HasValue x s a c → HasValue y t b c → add f x y ≡ sum f s a t b c
unfolding add
add_is f nan y s t a b c C p q = absurd p
add_is f (inf s') y s t a b c C p q = absurd p
add_is f (fin s' m e) nan s t a b c C p q = absurd q
add_is f (fin s' m e) (inf t') s t a b c C p q = absurd q
add_is f (fin s' m e) (fin t' n d) s t a b c C p q =
    ap (λ (z : Bool). sum f z (m * up e * down d) t' (n * up d * down e) (down e * down d)) p.0
    ∙ ap (λ (z : Bool). sum f s (m * up e * down d) z (n * up d * down e) (down e * down d)) q.0
    ∙ sum_same f s t (m * up e * down d) (n * up d * down e) (down e * down d) a b c (mul-pos (down_pos e) (down_pos d)) C
    (left_part (m * up e) a c (down e) (down d) p.1) (right_part (n * up d) b c (down e) (down d) q.1)

-- ---- a result is finite only where the operands are
pub mul_finite : (f : Format) (x y : Float) → T (finite (mul f x y)) → T (finite x) × T (finite y)
unfolding mul
mul_finite f nan y h = absurd h
mul_finite f (inf s) nan h = absurd h
mul_finite f (inf s) (inf t) h = absurd h
mul_finite f (inf s) (fin t n d) h = absurd (go (eqb n 0) h)
  where
    go : (b : Bool) → T (finite (cond b nan (inf (unlike s t)))) → ⊥
    go true h = h
    go false h = h
mul_finite f (fin s m e) nan h = absurd h
mul_finite f (fin s m e) (inf t) h = absurd (go (eqb m 0) h)
  where
    go : (b : Bool) → T (finite (cond b nan (inf (unlike s t)))) → ⊥
    go true h = h
    go false h = h
mul_finite f (fin s m e) (fin t n d) h = (tt, tt)

pub add_finite : (f : Format) (x y : Float) → T (finite (add f x y)) → T (finite x) × T (finite y)
unfolding add
add_finite f nan y h = absurd h
add_finite f (inf s) nan h = absurd h
add_finite f (inf s) (inf t) h = absurd (go (beq s t) h)
  where
    go : (b : Bool) → T (finite (cond b (inf s) nan)) → ⊥
    go true h = h
    go false h = h
add_finite f (inf s) (fin t n d) h = absurd h
add_finite f (fin s m e) nan h = absurd h
add_finite f (fin s m e) (inf t) h = absurd h
add_finite f (fin s m e) (fin t n d) h = (tt, tt)

pub div_finite : (f : Format) (x y : Float) → T (finite (div f x y)) → T (finite x)
unfolding div
div_finite f nan y h = absurd h
div_finite f (inf s) nan h = absurd h
div_finite f (inf s) (inf t) h = absurd h
div_finite f (inf s) (fin t n d) h = absurd h
div_finite f (fin s m e) y h = tt
