-- Curves through points: their parameters and knots, the system of their control points, and what a build of them answers.
pub mod Parameters
pub mod System
pub mod Through
pub mod Fit
pub mod Stored
pub mod Fitting
