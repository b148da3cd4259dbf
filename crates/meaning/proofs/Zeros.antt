-- What compares equal to 0, and a number less itself. Assumes nothing.
use mathlib.Core.Path.{◌≡◌, refl, ◌∙◌}
use mathlib.Core.Bool.{Bool, true, false, not}
use Prim.Native.Nat.{ℕ, ◌*◌, ◌<◌}
use native.Mathlib.Nat.{mul-pos, zero-mul, sub_self}
use native.Mathlib.Omega.{arith}
use borrow.Author.Tests.{le-ltb}
use lib.IntN.{ℤ, pos}
use lib.Ieee.{Float, nan, inf, fin, binary64, up, down, round, sum, add, sub, neg, eq, level, of_bits}
use lib.Ieee.Fits.{down_pos}
use lib.Ieee.Exact.{HasValue}
use lib.Ieee.Scale.{round_same, finite}
use Rattle.meaning.specs.Scalar.{zero64}

-- a zero of either sign does
pub zero_eq : (s : Bool) (e : ℤ) → eq (fin s 0 e) zero64 ≡ true
unfolding eq of_bits
zero_eq s e = rw (zero-mul (up e), zero-mul (down e)) (go s)
  where
    go : (s : Bool) → level s (0 * 1) false 0 ≡ true
    go true = refl
    go false = refl

pub round_zero : (s : Bool) (c : ℕ) → 0 < c → round binary64 s 0 c ≡ fin s 0 (pos 0)
round_zero s c h = round_same binary64 s 0 c 0 1 h (omega arith) (omega (arith, zero-mul c)) ∙ go
  where
    go : round binary64 s 0 1 ≡ fin s 0 (pos 0)
    go = unfold round in refl

-- ---- a number less the same number

gone : (s : Bool) (a c : ℕ) → 0 < c → eq (sum binary64 s a (not s) a c) zero64 ≡ true
unfolding sum
gone true a c h = rw (le-ltb a a (omega arith), sub_self a, round_zero false c h) (zero_eq false (pos 0))
gone false a c h = rw (le-ltb a a (omega arith), sub_self a, round_zero false c h) (zero_eq false (pos 0))

pub less_same : (s : Bool) (m : ℕ) (e : ℤ) (y : Float) → HasValue y s (m * up e) (down e) → eq (sub binary64 (fin s m e) y) zero64 ≡ true
unfolding sub add neg
less_same s m e nan h = absurd h
less_same s m e (inf t) h = absurd h
less_same s m e (fin t n d) h = rw (h.0, h.1) (gone s (m * up e * down d) (down e * down d) (mul-pos (down_pos e) (down_pos d)))

-- so less itself it compares equal to 0 just where it is finite
pub less_itself : (x : Float) → eq (sub binary64 x x) zero64 ≡ finite x
unfolding sub add neg eq
less_itself nan = refl
less_itself (inf true) = refl
less_itself (inf false) = refl
less_itself (fin s m e) = less_same s m e (fin s m e) (refl, refl)
