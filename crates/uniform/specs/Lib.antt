-- Uniform knots.
pub mod Uniform
