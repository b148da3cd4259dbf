-- The laws of sorted knots, of repeated ones and of the rules.
pub mod Sorted
pub mod Repeats
pub mod Accepted
pub mod Passing
pub mod Passes
pub mod Refused
pub mod LastRows
