-- `root_of` is the double nearest to the exact root (`root_nearest`), and no other double is (`nearest_unique`). Assumes nothing.
use mathlib.Core.Path.{◌≡◌, refl, sym, subst}
use mathlib.Core.Bool.{true, false}
use Prim.Native.Nat.{ℕ, zero, suc, ◌+◌, ◌*◌, ◌/◌, ◌^◌, ◌≤◌, ◌<◌}
use native.Mathlib.Nat.{le_of_suc-le-suc, le_antisymm, lt_of_not-le, lt_of_lt_of_le, zero-mul, zero-lt-suc}
use native.Mathlib.Omega.{arith}
use lib.IntN.{ℤ, pos}
use lib.Dec.{T}
use lib.Ieee.{Float, nan, inf, fin, binary64, up, down, lt, fits, to_bits, of_bits}
use lib.Ieee.Bits.{of_bits-to_bits}
use lib.Ieee.Exact.{HasValue}
use Rattle.meaning.specs.Root.{in_units, root_squared, unsigned, Nearest, root_of}
use Rattle.root.proofs.Squares.{NearestWhole, sq_lt}
use Rattle.root.proofs.FourRoots.{nearest_whole}
use Rattle.root.proofs.Scaling.{Scales, scaled_of}
use Rattle.root.proofs.Doubles.{units_of, unsigned_of, same_value, finite_below, own_value, own_digits}
use Rattle.root.proofs.RootPattern.{radicand, radicand_range, root_least, root_squared_is, root_squared_of, root-value}
use Rattle.root.proofs.Range.{root-fits}
use Rattle.root.proofs.Edges.{zero_is, pattern_positive, is_above}
use Rattle.root.proofs.Middles.{middle_above, middle_below}

-- ---- the only one

-- of two that are nearest, neither is above the other: the root would lie on both sides of their middle
pub nearest_unique : (x r s : Float) → Nearest x r → Nearest x s → r ≡ s
nearest_unique x r s a b =
    same_value r s (in_units r) a.double b.double (own_value r a.double a.number)
    (subst (λ (v : ℕ). HasValue s false v (2 ^ 1074)) (le_antisymm (no_more s r b a) (no_more r s a b)) (own_value s b.double b.number))
  where
    no_more : (r s : Float) → Nearest x r → Nearest x s → in_units r ≤ in_units s
    no_more r s a b =
        le_of_suc-le-suc
        (lt_of_not-le (λ (g : suc (in_units s) ≤ in_units r). omega (arith, b.above r a.double a.number g, a.below s b.double b.number g)))

-- ---- an exact root is nearest

pub exact_nearest : (x r : Float) → T (fits binary64 r) → T (unsigned r) → in_units r * in_units r ≡ root_squared x → Nearest x r
exact_nearest x r f c e =
    record {
      double = f;
      number = c;
      below = λ y g d l. under (in_units y) (in_units r) (root_squared x) e l;
      above = λ y g d l. over (in_units y) (in_units r) (root_squared x) e l;
    }
  where
    under : (y r n : ℕ) → r * r ≡ n → y < r → (y + r) * (y + r) < 4 * n
    under y r n e l = lt_of_lt_of_le (sq_lt (y + r) (r + r) (omega arith)) (omega arith)

    over : (y r n : ℕ) → r * r ≡ n → r < y → 4 * n < (y + r) * (y + r)
    over y r n e l = omega (arith, sq_lt (r + r) (y + r) (omega arith))

-- ---- `root_of` is nearest

module _ (b m a q : ℕ) (finite : b < 0x7ff0_0000_0000_0000) (scales : Scales b m a) (near : NearestWhole (radicand m a) q) where
  digits_nearest : Nearest (of_bits binary64 b) (root_of (of_bits binary64 b))
  digits_nearest =
      let r = root_of (of_bits binary64 b) in
      let v = root-value b m a q finite scales near in
      let er = units_of r (q * 2 ^ (a / 2)) v in
      let es = root_squared_of b m a q finite scales near in
      let large = root_least b m a q finite scales near in
      let least = (radicand_range b m a scales).0 in
      record {
        double = root-fits (of_bits binary64 b);
        number = unsigned_of r (q * 2 ^ (a / 2)) v;
        below = λ y f c l. (let z = own_digits y f c in rw (z.2, er, es) (middle_below (radicand m a) q (a / 2) large least near z.0 z.1 z.3 (rw (z.2, er) at l)));
        above = λ y f c l. (let z = own_digits y f c in rw (z.2, er, es) (middle_above (radicand m a) q (a / 2) large least near z.0 z.1 z.3 (rw (z.2, er) at l)));
      }

pattern_nearest : (b : ℕ) → 0 < b → b < 0x7ff0_0000_0000_0000 → Nearest (of_bits binary64 b) (root_of (of_bits binary64 b))
pattern_nearest b p k =
    let t = scaled_of b p k in
    let d = nearest_whole (radicand t.0 t.1) (lt_of_lt_of_le (zero-lt-suc _) (radicand_range b t.0 t.1 t.2).0) in
    digits_nearest b t.0 t.1 d.0 k t.2 d.1

-- for each double that is finite and has no minus sign
pub root_nearest : (x : Float) → T (fits binary64 x) → T (unsigned x) → Nearest x (root_of x)
unfolding root_of in_units fits
root_nearest nan f c = absurd c
root_nearest (inf s) f c = absurd c
root_nearest (fin true m e) f c = absurd c
root_nearest (fin false zero e) f c = exact_nearest (fin false zero e) (fin false 0 (pos 0)) tt tt (sym (root_squared_is (fin false zero e) 0 (refl, no_units e)))
  where
    no_units : (e : ℤ) → 0 * up e * 2 ^ 1074 ≡ 0 * down e
    no_units e = rw (zero-mul, zero-mul, zero-mul)
root_nearest (fin false (suc m) e) f c =
    let x = fin false (suc m) e in
    subst (λ (y : Float). Nearest y (root_of y)) (of_bits-to_bits binary64 x f)
    (pattern_nearest (to_bits binary64 x) (pattern_positive x f (subst (λ (z : Float). lt z x ≡ true) (sym zero_is) (is_above m e))) (finite_below x f tt))
