-- A point of a curve, and its derivatives.
pub mod Point
pub mod Straight
pub mod Piece
pub mod Near
