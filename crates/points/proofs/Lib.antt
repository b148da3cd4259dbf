-- One parameter of many in its place, the whole call, and what is promised of each of its points.
pub mod Turns
pub mod Answers
