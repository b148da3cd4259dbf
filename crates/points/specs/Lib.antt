-- The points of a curve at many parameters, and how a place is answered.
pub mod Points
pub mod Turn
