-- Numbers that compare equal to 0, as an elimination meets them: nothing over one of them is finite, a number over itself is 1, and a double
-- less once itself compares equal to 0. Assumes nothing.
use mathlib.Core.Path.{◌≡◌, refl, sym, ap, ◌∙◌, subst}
use mathlib.Core.Bool.{Bool, true, false, not, ◌&&◌, ◌||◌, beq}
use Prim.Native.Nat.{ℕ, zero, suc, ◌+◌, ◌-◌, ◌*◌, ◌%◌, ◌^◌, ◌≤◌, ◌<◌}
use native.Mathlib.Nat.{lt_of_lt_of_le, le_trans, le_of_eq, mul-lt-mul_of_pos_right, mul-pos, zero-mul, mul-one, one-mul, mul_assoc, zero-lt-suc}
use native.Mathlib.Omega.{arith}
use borrow.Author.Tests.{eqb-true}
use lib.Dec.{eqb-suc-zero, T, ltb, eqb, leb, leb→le, ltb→lt}
use lib.Pow.{pow_pos, pow-add, pow_mono}
use lib.IntN.{ℤ, pos, negsuc}
use lib.Ieee.{Float, nan, inf, fin, Format, binary64, up, down, unlike, round, add, sub, neg, mul, div, eq, fits, of_bits}
use lib.Ieee.Fits.{up_pos, down_pos, and_l, and_r}
use lib.Ieee.Exact.{HasValue, round_exact}
use lib.Ieee.Scale.{round_same, finite}
use Rattle.meaning.specs.Scalar.{zero64, one64}
use Rattle.meaning.proofs.Tests.{no, and_left}
use Rattle.meaning.proofs.Whole.{exponent}
use Rattle.meaning.proofs.Zeros.{zero_eq, round_zero, less_same}

abbrev B : Format
B = binary64

-- ---- what compares equal to 0 is a zero, of either sign
no_zero : (s : Bool) (m : ℕ) (e : ℤ) → eq (fin s (suc m) e) zero64 ≡ true → ⊥
unfolding eq of_bits
no_zero s m e h =
    let a = suc m * up e * 1 in
    let p : 0 < a = mul-pos (mul-pos (zero-lt-suc m) (up_pos e)) (omega arith) in
    let q : a ≡ 0 * 1 * down e = eqb-true a (0 * 1 * down e) (and_left (eqb a (0 * 1 * down e)) (beq s false || eqb a 0) h) in
    omega (arith, zero-mul (down e))

by_zero : (P : Float → Type 0) (x : Float) → eq x zero64 ≡ true → ((s : Bool) (e : ℤ) → P (fin s 0 e)) → P x
unfolding eq of_bits
by_zero P nan h f = no h
by_zero P (inf s) h f = no h
by_zero P (fin s zero e) h f = f s e
by_zero P (fin s (suc m) e) h f = absurd (no_zero s m e h)

-- ---- nothing over it is finite, and no product with what is not finite
pub over_fin : (x : Float) (s : Bool) (e : ℤ) → finite (div B x (fin s 0 e)) ≡ false
unfolding div
over_fin nan s e = refl
over_fin (inf t) s e = refl
over_fin (fin t zero d) s e = refl
over_fin (fin t (suc n) d) s e = rw (eqb-suc-zero n)

pub over_zero : (x y : Float) → eq y zero64 ≡ true → finite (div B x y) ≡ false
over_zero x y h = by_zero (λ (z : Float). finite (div B x z) ≡ false) y h (over_fin x)

pub times_wild : (x y : Float) → finite y ≡ false → finite (mul B x y) ≡ false
unfolding mul
times_wild x (fin t n d) h = no (sym h)
times_wild nan nan h = refl
times_wild (inf s) nan h = refl
times_wild (fin s m e) nan h = refl
times_wild nan (inf t) h = refl
times_wild (inf s) (inf t) h = refl
times_wild (fin s zero e) (inf t) h = refl
times_wild (fin s (suc m) e) (inf t) h = rw (eqb-suc-zero m)

-- ---- a number over itself
pub one_over : (s : Bool) (m : ℕ) (e : ℤ) → div B (fin s (suc m) e) (fin s (suc m) e) ≡ one64
unfolding div
one_over s m e = rw (eqb-suc-zero m) (go s (suc m * up e * down e) (mul-pos (mul-pos (zero-lt-suc m) (up_pos e)) (down_pos e)))
  where
    one : round B false 1 1 ≡ one64
    one = unfold round of_bits in refl

    go : (s : Bool) (a : ℕ) → 0 < a → round B (unlike s s) a a ≡ one64
    go true a h = round_same B false a a 1 1 h (omega arith) (omega arith) ∙ one
    go false a h = round_same B false a a 1 1 h (omega arith) (omega arith) ∙ one

pub self_quotient : (x : Float) → eq x zero64 ≡ false → finite (div B x x) ≡ true → div B x x ≡ one64
unfolding div
self_quotient nan h g = no g
self_quotient (inf s) h g = no g
self_quotient (fin s zero e) h g = no (sym h ∙ zero_eq s e)
self_quotient (fin s (suc m) e) h g = one_over s m e

-- ---- a double is its own rounding
-- a number of at most 53 digits, not too deep and not too large
exact : (s : Bool) (q : ℕ) (e : ℤ) → q < 2 ^ 53 → down e ≤ 2 ^ 1074 → q * up e < 2 ^ 1024 * down e → HasValue (round B s (q * up e) (down e)) s (q * up e) (down e)
exact s q (pos k) h d b =
    let x : q * 2 ^ k * 2 ^ 1074 ≡ q * 2 ^ (k + 1074) = mul_assoc q (2 ^ k) (2 ^ 1074) ∙ ap (λ (z : ℕ). q * z) (sym (pow-add 2 k 1074)) in
    round_exact B s (q * 2 ^ k) 1 q (k + 1074) (omega arith) h
    (subst (λ (z : ℕ). z < 2 ^ (1074 + 1024)) x (large (q * 2 ^ k) (subst (λ (z : ℕ). q * 2 ^ k < z) (mul-one (2 ^ 1024)) b)))
    (x ∙ sym (mul-one (q * 2 ^ (k + 1074))))
  where
    large : (v : ℕ) → v < 2 ^ 1024 → v * 2 ^ 1074 < 2 ^ (1074 + 1024)
    large v h = subst (λ (z : ℕ). v * 2 ^ 1074 < z) (sym (pow-add 2 1024 1074)) (mul-lt-mul_of_pos_right h (pow_pos 1074))
exact s q (negsuc k) h d b =
    let j : suc k ≤ 1074 = exponent (suc k) 1074 d in
    let x : 2 ^ 1074 ≡ 2 ^ (1074 - suc k) * 2 ^ suc k = shifted (suc k) 1074 j in
    round_exact B s (q * 1) (2 ^ suc k) q (1074 - suc k) (pow_pos (suc k)) h
    (lt_of_lt_of_le (mul-lt-mul_of_pos_right h (pow_pos (1074 - suc k))) (le_trans (le_of_eq (sym (pow-add 2 53 (1074 - suc k)))) (pow_mono (few k))))
    (ap (λ (z : ℕ). z * 2 ^ 1074) (mul-one q) ∙ ap (λ (z : ℕ). q * z) x ∙ sym (mul_assoc q (2 ^ (1074 - suc k)) (2 ^ suc k)))
  where
    few : (k : ℕ) → 53 + (1074 - suc k) ≤ 1074 + 1024
    few k = omega arith

    shifted : (k l : ℕ) → k ≤ l → 2 ^ l ≡ 2 ^ (l - k) * 2 ^ k
    shifted k l h = let e : l ≡ l - k + k = omega arith in ap (λ (z : ℕ). 2 ^ z) e ∙ pow-add 2 (l - k) k

pub own_round : (s : Bool) (m : ℕ) (e : ℤ) → T (fits B (fin s m e)) → HasValue (round B s (m * up e) (down e)) s (m * up e) (down e)
unfolding fits
own_round s zero e h = rw (zero-mul (up e), round_zero s (down e) (down_pos e)) (refl, zero-mul (down e))
own_round s (suc m) e h =
    let digits = eqb (suc m % 2) 1 && ltb (suc m) (2 ^ 53) in
    let deep = leb (down e) (2 ^ 1074) in
    let large = ltb (suc m * up e) (2 ^ 1024 * down e) in
    let g : T (digits && deep) = and_l (digits && deep) large h in
    exact s (suc m) e
    (ltb→lt (suc m) (2 ^ 53) (and_r (eqb (suc m % 2) 1) (ltb (suc m) (2 ^ 53)) (and_l digits deep g)))
    (leb→le (down e) (2 ^ 1074) (and_r digits deep g))
    (ltb→lt (suc m * up e) (2 ^ 1024 * down e) (and_r (digits && deep) large h))

-- so it is its own product with 1
once : (s : Bool) (m : ℕ) (e : ℤ) → T (fits B (fin s m e)) → HasValue (mul B one64 (fin s m e)) s (m * up e) (down e)
unfolding mul of_bits
once s m e h = rw (one-mul (m * up e), one-mul (down e)) (go s (own_round s m e h))
  where
    go : (s : Bool) → HasValue (round B s (m * up e) (down e)) s (m * up e) (down e) → HasValue (round B (unlike false s) (m * up e) (down e)) s (m * up e) (down e)
    go true h = h
    go false h = h

-- ---- a number less the same number
less_inf : (s : Bool) → finite (sub B (inf s) (mul B one64 (inf s))) ≡ false
unfolding sub add neg mul of_bits
less_inf true = refl
less_inf false = refl

-- a double less 1 times itself, where that is finite
pub less_once : (y : Float) → T (fits B y) → finite (sub B y (mul B one64 y)) ≡ true → eq (sub B y (mul B one64 y)) zero64 ≡ true
less_once nan f h = no (unfold sub add in h)
less_once (inf s) f h = no (sym (less_inf s) ∙ h)
less_once (fin s m e) f h = less_same s m e (mul B one64 (fin s m e)) (once s m e f)
