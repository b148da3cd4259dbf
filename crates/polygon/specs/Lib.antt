-- The length of a curve's control polygon.
pub mod Polygon
pub mod Stepped
