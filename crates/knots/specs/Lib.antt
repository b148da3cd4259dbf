-- The knot rules.
pub mod Rules
pub mod Repeat
pub mod Given
