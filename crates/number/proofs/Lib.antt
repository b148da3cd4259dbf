-- What comparisons tell of a double.
pub mod Compared
