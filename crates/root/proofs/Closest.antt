-- The two parts of a rounding: a fraction that is nearer to q than by a half rounds to q, and how many digits a number has. Assumes nothing.
use mathlib.Core.Path.{◌≡◌, sym, ap, subst}
use mathlib.Core.Bool.{not}
use Prim.Native.Nat.{ℕ, suc, ◌+◌, ◌*◌, ◌/◌, ◌%◌, ◌^◌, ◌≤◌, ◌<◌, compare, Ordering}
use native.Mathlib.Nat.{le_of_eq, le_of_suc-le-suc, le_antisymm, lt_of_not-le, lt_of_lt_of_le, not-le_of_lt, suc-mul, lt_of_mul-lt-mul_right, div-add-mod', mod-lt}
use native.Mathlib.Omega.{arith}
use lib.Arith.{lt_of_le-ne}
use lib.Dec.{T, eqb, is_le, compare_is_eq, leb→le, nleb→lt, eqb→eq, eqb_refl}
use lib.Pow.{pow_mono}
use lib.Ieee.{size, nearest}
use lib.Ieee.Digits.{size-lt, size-le}
use lib.Ieee.Nearest.{closest}

-- what a comparison's outcome says
abbrev Found : Ordering → ℕ → ℕ → Type 0
Found Ordering.lt a b = a < b
Found Ordering.eq a b = a ≡ b
Found Ordering.gt a b = b < a

found : (a b : ℕ) → Found (compare a b) a b
found a b = go (compare a b) (leb→le a b) (nleb→lt a b) (eqb→eq a b) (λ (e : a ≡ b). subst (λ (x : ℕ). T (eqb a x)) e (eqb_refl a))
  where
    go : (o : Ordering) → (T (is_le o) → a ≤ b) → (T (not (is_le o)) → b < a) → (T (compare_is_eq o) → a ≡ b) → (a ≡ b → T (compare_is_eq o)) → Found o a b
    go Ordering.lt h k e n = lt_of_le-ne (h tt) n
    go Ordering.eq h k e n = e tt
    go Ordering.gt h k e n = k tt

-- two multiples of b that are less than b apart are the same
same_multiple : (b x q : ℕ) → q * b < x * b + b → x * b < q * b + b → x ≡ q
same_multiple b x q h k = le_antisymm (no_more x q k) (no_more q x h)
  where
    no_more : (y z : ℕ) → y * b < z * b + b → y ≤ z
    no_more y z l = le_of_suc-le-suc (lt_of_mul-lt-mul_right b (lt_of_lt_of_le l (le_of_eq (sym (suc-mul z b)))))

-- w and r are the quotient and the remainder of a by b
rounds_to : (a b q w r : ℕ) (o : Ordering) → Found o (r * 2) b → w * b + r ≡ a → r < b → 2 * (q * b) < 2 * a + b → 2 * a < 2 * (q * b) + b → nearest w o ≡ q
rounds_to a b q w r Ordering.lt c e l x y = same_multiple b w q (omega arith) (omega arith)
rounds_to a b q w r Ordering.eq c e l x y = absurd (omega (arith, ap (λ (z : ℕ). z * b) (same_multiple b w q (omega arith) (omega arith))))
rounds_to a b q w r Ordering.gt c e l x y = same_multiple b (suc w) q (omega arith) (omega arith)

pub closest_is : (a b q : ℕ) → 0 < b → 2 * (q * b) < 2 * a + b → 2 * a < 2 * (q * b) + b → closest a b ≡ q
closest_is a b q p x y = rounds_to a b q (a / b) (a % b) (compare (a % b * 2) b) (found (a % b * 2) b) (div-add-mod' a b) (mod-lt a p) x y

pub size_is : (w z : ℕ) → 2 ^ z ≤ w → w < 2 ^ suc z → size w ≡ suc z
size_is w z h k = le_antisymm (size-le w (suc z) k) (lt_of_not-le (λ (g : size w ≤ z). not-le_of_lt (lt_of_lt_of_le (size-lt w) (pow_mono g)) h))
