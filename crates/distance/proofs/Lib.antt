-- What the code makes of powers of two, and of a length.
pub mod Powers
pub mod Lengths
pub mod Distances
