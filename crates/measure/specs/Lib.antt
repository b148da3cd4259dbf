-- The polygon's length and the domain.
pub mod Measure
