-- The laws of sums, parameters and knots, of the rows of the system, of what a fit finds, and of the rules for fit points; that every door accepts
-- what a build does.
pub mod Sums
pub mod Plus
pub mod Rising
pub mod Rows
pub mod Judged
pub mod Spread
pub mod Six
pub mod Through
pub mod Asked
pub mod Passing
pub mod Kept
pub mod Doubles
pub mod Repeats
pub mod Doors
