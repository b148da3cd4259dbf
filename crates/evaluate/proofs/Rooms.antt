-- The room for five orders: what is put into it of a point alone, and past an end of the domain. Assumes nothing.
use mathlib.Core.Path.{◌≡◌, refl, ap}
use mathlib.Core.List.{◌∷◌}
use Prim.Native.Nat.{ℕ, zero, suc, ◌+◌, ◌≤◌}
use native.Mathlib.Omega.{arith}
use lib.ListN.{replicate}
use lib.Ieee.{Float}
use Rattle.meaning.specs.Scalar.{plain, zero64}
use Rattle.meaning.specs.Loops.{turns}
use Rattle.plane.specs.Vector.{Vector}
use Rattle.evaluate.specs.Point.{placed}
use Rattle.evaluate.specs.Straight.{straight_of}

-- a point alone
pub point_alone : (f : ℕ → Vector Float) (m : ℕ) {p : Vector Float} → m ≡ 0 → p ≡ f 0 → placed plain 1 (λ k. p) ≡ placed plain (m + 1) f
unfolding placed turns
point_alone f zero h e = ap (λ (p : Vector Float). placed plain 1 (λ k. p)) e
point_alone f (suc m) h e = absurd (omega arith)

-- a point with a tangent and zeros
pub straight_more : (p d : Vector Float) (m : ℕ) → (m ≡ 0 → ⊥) → m ≤ 4
    → (p.x ∷ p.y ∷ d.x ∷ d.y ∷ replicate 6 zero64) ≡ placed plain (m + 1) (straight_of p d)
unfolding placed turns straight_of
straight_more p d zero g h = absurd (g refl)
straight_more p d (suc zero) g h = refl
straight_more p d (suc (suc zero)) g h = refl
straight_more p d (suc (suc (suc zero))) g h = refl
straight_more p d (suc (suc (suc (suc zero)))) g h = refl
straight_more p d (suc (suc (suc (suc (suc m))))) g h = absurd (omega arith)
