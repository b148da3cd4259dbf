-- How many numbers there is room for.
pub mod Roomy
