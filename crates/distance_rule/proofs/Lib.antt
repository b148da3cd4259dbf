-- Laws of the distance.
pub mod Grids
pub mod Roots
pub mod Sums
pub mod Parts
pub mod Signs
pub mod Same
pub mod Plain
pub mod Limits
pub mod Examples
