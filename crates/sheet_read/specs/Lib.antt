-- The sheet: bytes and words, numbers, sections; and how what it says is written.
pub mod Text
pub mod Number
pub mod Grammar
pub mod Written
pub mod Content
pub mod Line
pub mod Read
