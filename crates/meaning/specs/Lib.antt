-- How a definition is written: the scalar, the loops, what is asked of a double, the root, tables, searches.
pub mod Root
pub mod Number
pub mod Scalar
pub mod Loops
pub mod Table
pub mod Search
pub mod Nowhere
