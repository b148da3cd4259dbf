-- `residual::Piece::residuals_of` meets its contract.
use mathlib.Core.Path.{refl, sym, ◌∙◌, subst}
use Prim.Native.Nat.{◌+◌}
use native.Mathlib.Omega.{arith}
use lib.Ieee.{Float}
use Rattle.residual.specs.Curve.{three_of}
use Rattle.residual.specs.Piece.{Read}
use Rattle.residual.proofs.Pieces.{held_is}
use Rattle.residual.proofs.Piece.residuals_of.Goals as goal

pub returns : goal.returns
returns c =
    let t = c.variable-at in
    let y = c.variable-y in
    let x = c.variable-x in
    let a = c.args in
    λ k q e r.
    let held = held_is q a.px a.py a.t a.h e in
    let px = held 0 a.h a.px x.result (omega arith) (omega arith) refl x.ensures.fact_1 in
    let py = held 1 (a.h + 1) a.py y.result (omega arith) refl refl y.ensures.fact_1 in
    let pt = held 2 (a.h + 2) a.t t.result (omega arith) refl refl t.ensures.fact_1 in
    c.residuals_at.ensures k (subst (λ (v : Float). Read k v a.self.now) (sym t.ensures.fact_2) r)
    ∙ (λ i. three_of k (record { x = px i; y = py i }) (pt i))
