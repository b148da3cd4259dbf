-- What the proofs of the functions share.
pub mod Ranges
pub mod Words
pub mod Numerals
pub mod Sections
pub mod Reading
pub mod Longest
pub mod Canonical
pub mod ReadBack
pub mod Accepted
pub mod Standing
