-- The root of m * 2 ^ 52 from the whole part s of m's root: a division gives its last 26 digits, and one comparison rounds it. This is what
-- `digits` computes; the names below are those of its steps. Assumes nothing.
use mathlib.Core.Path.{◌≡◌}
use Prim.Native.Nat.{ℕ, ◌+◌, ◌-◌, ◌*◌, ◌/◌, ◌%◌, ◌^◌, ◌≤◌, ◌<◌}
use native.Mathlib.Nat.{le_trans, lt_of_lt_of_le, mul-le-mul_left, le_of_mul-le-mul_right, div-add-mod', div-mul-le_self, mod-lt}
use native.Mathlib.Omega.{arith}
use Rattle.root.proofs.Squares.{WholePart, NearestWhole, root_lt, root_le}

-- What s leaves of m, moved up so far that one division by s gives the other digits: (s * 2 ^ 26 + q) ^ 2 has 2 * s * 2 ^ 26 * q in it.
abbrev pub rest : ℕ → ℕ → ℕ
rest m s = (m - s * s) * 2 ^ 25

abbrev pub quo : ℕ → ℕ → ℕ
quo m s = rest m s / s

abbrev pub rem : ℕ → ℕ → ℕ
rem m s = rest m s % s

-- the digits so far: the root, or one below it
abbrev pub cut : ℕ → ℕ → ℕ
cut m s = s * 2 ^ 26 + quo m s

-- how large each step is, so that none overflows
pub record Sized (m s : ℕ) : Type 0 where
  pub large : 2 ^ 26 ≤ s
  pub small : s < 2 ^ 27
  pub over : m - s * s ≤ 2 * s
  pub quotient : quo m s ≤ 2 ^ 26
  pub squared : quo m s * quo m s ≤ quo m s * 2 ^ 26
  pub remainder : rem m s < s

quo_le : (d s : ℕ) → 1 ≤ s → d ≤ 2 * s → d * 2 ^ 25 / s ≤ 2 ^ 26
quo_le d s p h = le_of_mul-le-mul_right {k = s} (le_trans (div-mul-le_self (d * 2 ^ 25) s) (omega arith)) p

pub sized : (m s : ℕ) → 2 ^ 52 ≤ m → m < 2 ^ 54 → WholePart m s → Sized m s
sized m s lo hi w =
    let l : 2 ^ 26 ≤ s = root_le (2 ^ 26) s (lt_of_lt_of_le (omega arith) w.1) in
    let o : m - s * s ≤ 2 * s = omega arith in
    let p : 1 ≤ s = omega arith in
    let q = quo_le (m - s * s) s p o in
    record {
      large = l;
      small = root_lt s (2 ^ 27) (omega arith);
      over = o;
      quotient = q;
      squared = mul-le-mul_left (quo m s) q;
      remainder = mod-lt (rest m s) p;
    }

-- ---- what the comparison decides

balance : (m s q v : ℕ) → s * s ≤ m → q * s + v ≡ (m - s * s) * 2 ^ 25 → m * 2 ^ 52 + q * q ≡ (s * 2 ^ 26 + q) * (s * 2 ^ 26 + q) + v * 2 ^ 27
balance m s q v h e = omega arith

-- m * 2 ^ 52 is the square of the digits so far, with the remainder more and the square of the new digits less
balanced : (m s : ℕ) → s * s ≤ m → m * 2 ^ 52 + quo m s * quo m s ≡ cut m s * cut m s + rem m s * 2 ^ 27
balanced m s h = balance m s (quo m s) (rem m s) h (div-add-mod' (rest m s) s)

-- so with p for the one and w for the other: r stays where w is at most p + r, and otherwise r + 1 is nearest
keep : (n p r w : ℕ) → n + p ≡ r * r + w → w ≤ p + r → p < r → NearestWhole n r
keep n p r w e h k = omega arith

move : (n p r w : ℕ) → n + p ≡ r * r + w → p + r < w → w ≤ 2 * r → NearestWhole n (r + 1)
move n p r w e h k = omega arith

below_cut : (s q p : ℕ) → 2 ^ 26 ≤ s → q ≤ 2 ^ 26 → p ≤ q * 2 ^ 26 → p < s * 2 ^ 26 + q
below_cut s q p l h k = omega arith

within_twice : (s q v : ℕ) → v < s → v * 2 ^ 27 ≤ 2 * (s * 2 ^ 26 + q)
within_twice s q v h = omega arith

pub stays : (m s : ℕ) → s * s ≤ m → Sized m s → rem m s * 2 ^ 27 ≤ quo m s * quo m s + cut m s → NearestWhole (m * 2 ^ 52) (cut m s)
stays m s h z t = keep _ _ (cut m s) _ (balanced m s h) t (below_cut s (quo m s) _ z.large z.quotient z.squared)

pub goes_up : (m s : ℕ) → s * s ≤ m → Sized m s → quo m s * quo m s + cut m s < rem m s * 2 ^ 27 → NearestWhole (m * 2 ^ 52) (cut m s + 1)
goes_up m s h z t = move _ _ (cut m s) _ (balanced m s h) t (within_twice s (quo m s) (rem m s) z.remainder)
