-- A map of one scalar into another goes through every definition of evaluation; taking the value of a value with partials is such a map.
pub mod Hom
pub mod Basis
pub mod Evaluate
pub mod Values
pub mod Fit
