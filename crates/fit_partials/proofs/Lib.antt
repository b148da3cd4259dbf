-- Laws of variables, and of what is stored.
pub mod Variables
pub mod Tidy
pub mod Laid
pub mod Numbers
pub mod Rows
pub mod PlainValues
pub mod Through
pub mod Answered
