-- What is answered of a curve that its rules let through, and what is promised of its point.
pub mod Answered
pub mod Promised
