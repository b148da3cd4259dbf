-- The laws of lists, of rows in a buffer, of pivots, of one turn of each loop, of what is stored, and of the outcome; a worked system.
pub mod Lists
pub mod Flat
pub mod Passes
pub mod Pivots
pub mod Steps
pub mod Answers
pub mod Placed
pub mod By
pub mod Reducing
pub mod Stored
pub mod Outcomes
pub mod Examples
