-- A list swept by a loop, a cell's operation in place, cells as a list of values, and what a step makes of rows of them.
pub mod Sweeps
pub mod Products
pub mod Cells
pub mod Turns
pub mod Places
pub mod Outcomes
