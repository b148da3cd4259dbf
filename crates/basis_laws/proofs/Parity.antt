-- The laws of a field contradict nothing: the field of two elements has them, with true for 1. Assumes nothing.
use mathlib.Core.Path.{◌≡◌, refl}
use mathlib.Core.Logic.{◌≢◌}
use mathlib.Core.Bool.{Bool, true, false, not, ◌&&◌}
use Prim.Native.Nat.{zero, suc}
use lib.Dec.{eqb}
use lib.IntN.{pos, negsuc}
use lib.Ieee.{Float, nan, inf, fin, of_int, of_bits, round}
use Rattle.meaning.specs.Scalar.{Ops, zero64}
use Rattle.basis_laws.specs.Recursion.{Field}

abbrev differ : Bool → Bool → Bool
differ false b = b
differ true b = not b

-- an odd whole number
unfoldable odd : Float → Bool
odd nan = false
odd (inf s) = false
odd (fin s m (pos zero)) = not (eqb m 0)
odd (fin s m (pos (suc e))) = false
odd (fin s m (negsuc e)) = false

abbrev parity : Ops Bool
parity =
    record {
      plus = differ;
      minus = differ;
      times = λ a b. a && b;
      over = λ a b. a && b;
      opp = λ a. a;
      root = λ a. a;
      cst = odd;
      val = λ a. zero64;
      off = false;
      fine = λ a. true;
    }

parity_field : Field parity
unfolding odd of_bits of_int round
parity_field =
    record {
      plus_assoc = assoc;
      plus_comm = comm;
      plus_zero = zero_right;
      plus-opp = self;
      minus_is = λ a b. refl;
      times_assoc = and_assoc;
      times_comm = and_comm;
      times_one = one_right;
      times-plus = distribute;
      over_is = λ a b. refl;
      inverse = invert;
      six = refl;
    }
  where
    assoc : (a b c : Bool) → differ (differ a b) c ≡ differ a (differ b c)
    assoc false b c = refl
    assoc true false c = refl
    assoc true true false = refl
    assoc true true true = refl

    comm : (a b : Bool) → differ a b ≡ differ b a
    comm false false = refl
    comm false true = refl
    comm true false = refl
    comm true true = refl

    zero_right : (a : Bool) → differ a false ≡ a
    zero_right false = refl
    zero_right true = refl

    self : (a : Bool) → differ a a ≡ false
    self false = refl
    self true = refl

    and_assoc : (a b c : Bool) → ((a && b) && c) ≡ (a && (b && c))
    and_assoc false b c = refl
    and_assoc true b c = refl

    and_comm : (a b : Bool) → (a && b) ≡ (b && a)
    and_comm false false = refl
    and_comm false true = refl
    and_comm true false = refl
    and_comm true true = refl

    one_right : (a : Bool) → (a && true) ≡ a
    one_right false = refl
    one_right true = refl

    distribute : (a b c : Bool) → (differ a b && c) ≡ differ (a && c) (b && c)
    distribute false b c = refl
    distribute true false false = refl
    distribute true false true = refl
    distribute true true false = refl
    distribute true true true = refl

    invert : (a : Bool) → a ≢ false → (a && (true && a)) ≡ true
    invert false h = absurd (h refl)
    invert true h = refl
