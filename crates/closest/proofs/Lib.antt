-- Laws of the search.
pub mod Steps
pub mod Falls
pub mod Folded
pub mod Judged
pub mod Least
pub mod Started
pub mod Nans
pub mod Each
pub mod Past
pub mod Pairs
