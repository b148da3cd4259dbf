-- What is built, every question lets through.
pub mod Rechecked
