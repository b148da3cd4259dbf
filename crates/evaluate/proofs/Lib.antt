-- Laws of the definitions.
pub mod Rooms
pub mod Places
pub mod Pieces
pub mod Slices
pub mod Near
