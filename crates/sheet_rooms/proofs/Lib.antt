-- Laws of the rooms.
pub mod Works
pub mod Rooms
