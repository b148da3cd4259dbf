-- What the tests of `root` tell of x: which x is positive and finite, and that the others get what `root_of` says. Assumes nothing.
use mathlib.Core.Path.{◌≡◌, refl, sym, ap, ◌∙◌, subst}
use mathlib.Core.Bool.{true, false}
use mathlib.Core.Logic.{inl, inr}
use Prim.Native.Nat.{ℕ, zero, suc, ◌*◌, ◌≤◌, ◌<◌}
use native.Mathlib.Nat.{not-le_of_lt, eq-zero-or-pos, mul-pos, zero-lt-suc}
use native.Mathlib.Omega.{arith}
use lib.IntN.{ℤ, pos}
use lib.Dec.{T, ltb, ltb→lt, lt→ltb}
use lib.Ieee.{Float, nan, inf, fin, binary64, up, down, lt, ne, eq, fits, to_bits, of_bits}
use lib.Ieee.Bits.{is_true, of_bits-to_bits}
use lib.Ieee.Compare.{differs_from_itself}
use lib.Ieee.Fits.{up_pos}
use Rattle.meaning.specs.Root.{root_of}
use Rattle.meaning.proofs.Tests.{no}
use Rattle.root.proofs.Doubles.{finite_below}

-- the code's 0.0 is a pattern, and the definition's a number
pub zero_is : of_bits binary64 0 ≡ fin false 0 (pos 0)
unfolding of_bits
zero_is = refl

-- ---- a positive double

zero_not_above : lt (of_bits binary64 0) (of_bits binary64 0) ≡ true → ⊥
unfolding of_bits lt
zero_not_above e = no e

pub pattern_positive : (x : Float) → T (fits binary64 x) → lt (of_bits binary64 0) x ≡ true → 0 < to_bits binary64 x
pattern_positive x f e =
    elim (eq-zero-or-pos (to_bits binary64 x)) [
      | inl z ↦ absurd (zero_not_above (subst (λ (y : Float). lt (of_bits binary64 0) y ≡ true) (zero_of z) e))
      | inr p ↦ p
    ]
  where
    zero_of : to_bits binary64 x ≡ 0 → x ≡ of_bits binary64 0
    zero_of z = sym (of_bits-to_bits binary64 x f) ∙ ap (λ (n : ℕ). of_bits binary64 n) z

above_zero : (m u d : ℕ) → 0 < u → ltb (0 * d) (suc m * u * 1) ≡ true
above_zero m u d p = is_true _ (lt→ltb (0 * d) (suc m * u * 1) (omega (arith, mul-pos (zero-lt-suc m) p)))

not_above_zero : (u d : ℕ) → ltb (0 * d) (0 * u * 1) ≡ true → ⊥
not_above_zero u d e = omega (arith, ltb→lt (0 * d) (0 * u * 1) (subst T (sym e) tt))

pub is_above : (m : ℕ) (e : ℤ) → lt (fin false 0 (pos 0)) (fin false (suc m) e) ≡ true
unfolding lt
is_above m e = above_zero m (up e) (down e) (up_pos e)

-- ---- the ways of `root` that answer without work

-- above zero, with a pattern that is not below the infinity's: the infinity
pub top_stays : (x : Float) → T (fits binary64 x) → lt (fin false 0 (pos 0)) x ≡ true → 0x7ff0_0000_0000_0000 ≤ to_bits binary64 x → x ≡ root_of x
unfolding lt root_of
top_stays nan f e h = absurd (no e)
top_stays (inf true) f e h = absurd (no e)
top_stays (inf false) f e h = refl
top_stays (fin true m k) f e h = absurd (no e)
top_stays (fin false zero k) f e h = absurd (not_above_zero (up k) (down k) e)
top_stays (fin false (suc m) k) f e h = absurd (not-le_of_lt (finite_below (fin false (suc m) k) f tt) h)

pub nan_stays : (x : Float) → ne x x ≡ true → x ≡ root_of x
unfolding root_of
nan_stays x e = subst (λ (y : Float). y ≡ root_of y) (sym (differs_from_itself x (subst T (sym e) tt))) refl

-- not above zero, and no NaN
pub zero_else : (x : Float) → lt (fin false 0 (pos 0)) x ≡ false → ne x x ≡ false → fin false 0 (pos 0) ≡ root_of x
unfolding lt ne eq root_of
zero_else nan e d = absurd (no (sym d))
zero_else (inf true) e d = refl
zero_else (inf false) e d = absurd (no (sym e))
zero_else (fin true m k) e d = refl
zero_else (fin false zero k) e d = refl
zero_else (fin false (suc m) k) e d = absurd (no (sym e ∙ above_zero m (up k) (down k) (up_pos k)))
