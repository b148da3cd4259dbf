-- The residuals of a point held on a curve, with their partials.
pub mod Curve
pub mod Residual
pub mod Piece
