-- The scalar: every definition of a curve is written once, over this record. The original's trait `Scalar` with the four operators and the
-- negation. The crate `partials` has the other instance.
use Rattle.std.specs.Prelude.{Bool, Float}
use Rattle.std.specs.Float.{binary64, nan}
use Rattle.std.specs.Float.Ieee.{add, sub, mul, div, neg, of_bits}
use Rattle.std.specs.Float.Ieee.Scale.{finite}
use Rattle.meaning.specs.Root.{root_of}

pub record Ops (A : Type 0) : Type 0 where
  pub plus : A → A → A
  pub minus : A → A → A
  pub times : A → A → A
  pub over : A → A → A
  pub opp : A → A
  pub root : A → A
  pub cst : Float → A
  pub val : A → Float
  -- what a list of scalars reads past its end, where no code reads
  pub off : A
  -- every number in it is finite
  pub fine : A → Bool

-- doubles, one rounding for each operation
abbrev pub plain : Ops Float
plain =
    record {
      plus = add binary64;
      minus = sub binary64;
      times = mul binary64;
      over = div binary64;
      opp = neg;
      root = root_of;
      cst = λ x. x;
      val = λ x. x;
      off = nan;
      fine = finite;
    }

-- +0.0 and 1.0
abbrev pub zero64 : Float
zero64 = of_bits binary64 0

abbrev pub one64 : Float
one64 = of_bits binary64 0x3ff0_0000_0000_0000
