-- One control point of a record moved.
pub mod Moving
