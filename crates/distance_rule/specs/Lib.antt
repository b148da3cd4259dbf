-- The distance of two points: the rule, and its square with nothing scaled.
pub mod Distance
pub mod Squares
