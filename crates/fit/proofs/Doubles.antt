-- Every matrix number of a row is a double: each is the answer of an operation, 0.0 or 1.0, whatever the knots and the parameter are. Assumes nothing.
use mathlib.Core.Bool.{true}
use mathlib.Core.List.{List}
use Prim.Native.Nat.{ℕ}
use lib.Dec.{T}
use lib.Ieee.{Float, binary64, fits}
use lib.Ieee.Fits.{nan-fits, add-fits, sub-fits, mul-fits, div-fits, neg-fits}
use Rattle.meaning.specs.Scalar.{plain}
use Rattle.fit.specs.System.{row_at}
use Rattle.fit.proofs.Kept.{Kept, row_keeps}

abbrev Double : Float → Type 0
Double x = T (fits binary64 x)

kept : Kept plain (λ x. T true) Double
kept = record {
  knot = λ x y p q. sub-fits binary64 x y;
  plus = λ x y p q. add-fits binary64 x y;
  minus = λ x y p q. sub-fits binary64 x y;
  times = λ x y p q. mul-fits binary64 x y;
  over = λ x y p q. div-fits binary64 x y;
  opp = neg-fits binary64;
  cst = λ v p. p;
  off = nan-fits binary64;
}

pub row-double : (sp : Float → ℕ) (us : List Float) (t : Float) (d k : ℕ) → T (fits binary64 (row_at plain sp us t d k))
row-double sp us t d k = row_keeps plain (λ x. T true) Double kept sp us t (λ j. tt) tt d k
