-- Tables of refusals, row by row and one after the other.
pub mod Rows
