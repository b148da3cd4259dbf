-- The corners of a polygon.
pub mod Corners
