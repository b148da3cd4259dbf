-- The samples in their room.
pub mod Sampled
