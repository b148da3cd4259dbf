-- `residual::Piece::residuals_at` meets its contract.
use Rattle.residual.proofs.Pieces.{three_are}
use Rattle.residual.proofs.Piece.residuals_at.Goals as goal

pub returns : goal.returns
returns c =
    let a = c.args in
    λ k r. three_are k a.self.now a.t r a.x a.y (c.point-curve.ensures k r) c.sub-d.ensures c.overshoot-past.ensures
