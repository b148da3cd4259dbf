-- Curves through points, with partials.
pub mod Variables
pub mod Stored
pub mod Through
pub mod View
