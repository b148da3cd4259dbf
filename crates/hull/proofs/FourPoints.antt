-- The least, the greatest and the largest size of four values are what their names say. Assumes nothing.
use mathlib.Core.Path.{subst}
use mathlib.Core.Bool.{Bool, true, false, not, cond}
use Prim.Native.Nat.{ℕ, ◌+◌, ◌≤◌, ◌<◌}
use native.Mathlib.Omega.{arith}
use lib.Dec.{T, leb→le, nleb→lt}
use lib.Ieee.{Float}
use Rattle.meaning.specs.Root.{in_units}
use Rattle.hull.specs.Units.{plus, minus}
use Rattle.hull.specs.Hull.{not_above, lower, higher, lowest, highest, largest}
use Rattle.hull.proofs.Operations.{Whole, parts}
use Rattle.hull.proofs.Numbers.{strict}
use Rattle.hull.proofs.Reading.{AtMost, trans}
use Rattle.hull.proofs.Sums.{Between}

-- ---- of two

higher-two : (x y : Float) → AtMost x (higher x y) × AtMost y (higher x y)
higher-two x y = go (not_above x y) (leb→le (plus x + minus y) (plus y + minus x)) (nleb→lt (plus x + minus y) (plus y + minus x))
  where
    go : (b : Bool) → (T b → AtMost x y) → (T (not b) → plus y + minus x < plus x + minus y) → AtMost x (cond b y x) × AtMost y (cond b y x)
    go true h k = (h tt, omega arith)
    go false h k = (omega arith, strict (plus y + minus x) (plus x + minus y) (k tt))

lower-two : (x y : Float) → AtMost (lower x y) x × AtMost (lower x y) y
lower-two x y = go (not_above x y) (leb→le (plus x + minus y) (plus y + minus x)) (nleb→lt (plus x + minus y) (plus y + minus x))
  where
    go : (b : Bool) → (T b → AtMost x y) → (T (not b) → plus y + minus x < plus x + minus y) → AtMost (cond b x y) x × AtMost (cond b x y) y
    go true h k = (omega arith, h tt)
    go false h k = (strict (plus y + minus x) (plus x + minus y) (k tt), omega arith)

size_two : (b : Bool) (x y : Float) (m : ℕ) → in_units x ≤ m → in_units y ≤ m → in_units (cond b x y) ≤ m
size_two true x y m h k = h
size_two false x y m h k = k

-- ---- of four

-- each lies between lo and hi, and no size is above m
pub record Bounds (a b c d lo hi : Float) (m : ℕ) : Type 0 where
  pub la : AtMost lo a
  pub lb : AtMost lo b
  pub lc : AtMost lo c
  pub ld : AtMost lo d
  pub ha : AtMost a hi
  pub hb : AtMost b hi
  pub hc : AtMost c hi
  pub hd : AtMost d hi
  pub sa : in_units a ≤ m
  pub sb : in_units b ≤ m
  pub sc : in_units c ≤ m
  pub sd : in_units d ≤ m
  pub sl : in_units lo ≤ m
  pub sh : in_units hi ≤ m

pub bounds : (a b c d : Float) → Bounds a b c d (lowest a b c d) (highest a b c d) (largest a b c d)
unfolding lowest highest
bounds a b c d =
    let m = largest a b c d in
    let h = higher-two (higher a b) (higher c d) in
    let l = lower-two (lower a b) (lower c d) in
    let sa : in_units a ≤ m = omega arith in
    let sb : in_units b ≤ m = omega arith in
    let sc : in_units c ≤ m = omega arith in
    let sd : in_units d ≤ m = omega arith in
    record {
      la = trans (lower (lower a b) (lower c d)) (lower a b) a l.0 (lower-two a b).0;
      lb = trans (lower (lower a b) (lower c d)) (lower a b) b l.0 (lower-two a b).1;
      lc = trans (lower (lower a b) (lower c d)) (lower c d) c l.1 (lower-two c d).0;
      ld = trans (lower (lower a b) (lower c d)) (lower c d) d l.1 (lower-two c d).1;
      ha = trans a (higher a b) (higher (higher a b) (higher c d)) (higher-two a b).0 h.0;
      hb = trans b (higher a b) (higher (higher a b) (higher c d)) (higher-two a b).1 h.0;
      hc = trans c (higher c d) (higher (higher a b) (higher c d)) (higher-two c d).0 h.1;
      hd = trans d (higher c d) (higher (higher a b) (higher c d)) (higher-two c d).1 h.1;
      sa = sa;
      sb = sb;
      sc = sc;
      sd = sd;
      sl = size_two (not_above (lower a b) (lower c d)) (lower a b) (lower c d) m (size_two (not_above a b) a b m sa sb)
          (size_two (not_above c d) c d m sc sd);
      sh = size_two (not_above (higher a b) (higher c d)) (higher c d) (higher a b) m (size_two (not_above c d) d c m sd sc)
          (size_two (not_above a b) b a m sb sa);
    }

-- the same in the words of the bound
pub between : (x lo hi : Float) (m : ℕ) → Whole x → AtMost lo x → AtMost x hi → in_units x ≤ m → Between x (plus lo) (minus lo) (plus hi) (minus hi) m
between x lo hi m w l h s =
    record { whole = w; up_to = h; down_to = turn (plus lo) (minus lo) (plus x) (minus x) l; size = subst (λ (z : ℕ). z ≤ m) (parts x) s }
  where
    turn : (a b c d : ℕ) → a + d ≤ c + b → d + a ≤ b + c
    turn a b c d h = omega arith
