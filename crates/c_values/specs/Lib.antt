-- How numbers cross into C and back.
pub mod Crossing
