-- Inner: the second derivatives of the four functions of a span, written out over the entries of A2.3's table that they read. The law
-- `second_are` of proofs/Written.antt says that they are A2.3's.
use Rattle.std.specs.Prelude.{List, Float}
use Rattle.std.specs.Float.{binary64}
use Rattle.std.specs.Float.Ieee.{of_bits}
use Rattle.meaning.specs.Scalar.{Ops, zero64, one64}
use Rattle.meaning.specs.Table.{at2}

-- 6.0, the factor of order 2
abbrev pub six64 : Float
six64 = of_bits binary64 0x4018_0000_0000_0000

-- the knot differences in the rows 2 and 3 of the table, and the two values in its column 1
pub record Entries (A : Type 0) : Type 0 where
  pub g20 : A
  pub g21 : A
  pub g30 : A
  pub g31 : A
  pub g32 : A
  pub low : A
  pub high : A

module _ {A : Type 0} (o : Ops A) where
  abbrev pub entries_of : List (List A) → Entries A
  entries_of ndu =
      record {
        g20 = at2 o ndu 2 0;
        g21 = at2 o ndu 2 1;
        g30 = at2 o ndu 3 0;
        g31 = at2 o ndu 3 1;
        g32 = at2 o ndu 3 2;
        low = at2 o ndu 0 1;
        high = at2 o ndu 1 1;
      }

  -- the coefficients of order 1 that a knot difference has: 1 over it, and -1 over it
  abbrev up : A → A
  up gap = o.over (o.cst one64) gap

  abbrev down : A → A
  down gap = o.over (o.opp (o.cst one64)) gap

  -- a coefficient of order 2, which is a number over a knot difference, times its value
  abbrev term : A → A → A → A
  term coef gap value = o.times (o.over coef gap) value

  -- the second derivative of each function
  abbrev pub function0 : Entries A → A
  function0 e = o.times (o.plus (o.cst zero64) (term (o.opp (down e.g30)) e.g20 e.low)) (o.cst six64)

  abbrev pub function1 : Entries A → A
  function1 e =
      let c = down e.g31 in
      let first = o.plus (o.cst zero64) (term (o.minus c (up e.g30)) e.g20 e.low) in
      o.times (o.plus first (term (o.opp c) e.g21 e.high)) (o.cst six64)

  abbrev pub function2 : Entries A → A
  function2 e =
      let d = up e.g31 in
      let second = term (o.minus (down e.g32) d) e.g21 e.high in
      o.times (o.plus (term d e.g20 e.low) second) (o.cst six64)

  abbrev pub function3 : Entries A → A
  function3 e = o.times (term (up e.g32) e.g21 e.high) (o.cst six64)
