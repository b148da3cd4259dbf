-- The closest parameter: the nearest sample, the search, and what is answered.
pub mod Nearest
pub mod Search
pub mod Rounds
pub mod Sampling
pub mod Many
