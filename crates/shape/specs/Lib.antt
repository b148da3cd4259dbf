-- The shape of a curve, the rules for one, and a curve as it is offered.
pub mod Shape
pub mod Rules
pub mod Offered
pub mod Spline
pub mod Trusting
