-- What the rules tell of a shape and of handles that they let through.
pub mod Trusted
pub mod Handles
pub mod Sound
pub mod With
