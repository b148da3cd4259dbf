-- The rules of a record, and what a build answers.
pub mod Recheck
pub mod Builds
pub mod Put
