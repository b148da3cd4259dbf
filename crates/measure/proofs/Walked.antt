-- The domain of a curve in slices: its knots are those of its shape. Assumes nothing.
use mathlib.Core.Path.{◌≡◌, sym}
use mathlib.Core.List.{List, [], ◌∷◌}
use Prim.Native.Nat.{◌+◌}
use native.Mathlib.Omega.{arith}
use lib.Ieee.{Float}
use Rattle.meaning.specs.Scalar.{plain}
use Rattle.meaning.specs.Table.{at1}
use Rattle.knots.proofs.Accepted.{Accepted}
use Rattle.shape.specs.Shape.{points_in, slice_shape}
use Rattle.shape.proofs.Handles.{given-at}
use Rattle.measure.specs.Measure.{domain_of}

pub slice_domain : (coords ks : List Float) → Accepted ks (points_in coords)
    → (at1 plain ks 0 ∷ at1 plain ks (points_in coords + 3) ∷ []) ≡ domain_of (slice_shape coords ks)
slice_domain coords ks a =
    let n = points_in coords in
    let knot = given-at ks n a.sound.long a.room in
    λ i. sym (knot 0 (omega arith)) i ∷ sym (knot (n + 3) (omega arith)) i ∷ []
