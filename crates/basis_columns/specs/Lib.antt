-- The columns that A2.3 reads.
pub mod Columns
