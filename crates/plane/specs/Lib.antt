-- Vectors of the plane: the operations, and the code's structs as the definitions see them.
pub mod Vector
pub mod View
