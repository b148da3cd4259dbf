-- What a move answers, by value and in slices, and that every question lets it through.
pub mod Steps
pub mod Accepted
pub mod Into
