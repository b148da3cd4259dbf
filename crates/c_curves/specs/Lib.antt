-- Curves and numbers, between C and the library.
pub mod Curves
