-- The room that a slice fills.
pub mod Rooms
