-- The samples, and an answer with its count.
pub mod Samples
pub mod Walk
