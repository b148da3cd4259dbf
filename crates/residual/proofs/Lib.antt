-- What is read of a curve, what is made of it, and the rules.
pub mod Pieces
pub mod Rows
pub mod Rules
pub mod Controls
pub mod Fits
pub mod Answers
pub mod Forms
