-- Slices that their rules let through, their rules with a point behind them, the knots of a curve, a refusal handed on, and the numbers of a record.
pub mod InSlices
pub mod With
pub mod Knots
pub mod Handed
pub mod Typed
