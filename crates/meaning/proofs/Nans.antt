-- A NaN on the right of an operation. Assumes nothing.
use mathlib.Core.Path.{◌≡◌, refl}
use lib.Ieee.{Float, nan, inf, fin, add, mul}
use Rattle.meaning.specs.Scalar.{plain}

pub plus_nan : (x : Float) → plain.plus x nan ≡ nan
unfolding add
plus_nan nan = refl
plus_nan (inf s) = refl
plus_nan (fin s m e) = refl

pub times_nan : (x : Float) → plain.times x nan ≡ nan
unfolding mul
times_nan nan = refl
times_nan (inf s) = refl
times_nan (fin s m e) = refl
