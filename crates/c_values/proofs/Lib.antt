-- Laws of lent slices and of what is answered in them.
pub mod Slices
pub mod Rows
pub mod Answers
pub mod Determined
