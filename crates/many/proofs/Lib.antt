-- Entries in their places, and what a call leaves behind that is asked many questions.
pub mod Rooms
pub mod Places
pub mod Asked
