-- Numbers that are not finite, what a call leaves behind, and that it is one answer.
pub mod Wild
pub mod Doors
pub mod Apart
