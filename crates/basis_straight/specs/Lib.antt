-- The structs of the code, and the second derivatives written out. The other definitions are those of the crate `basis`, at `dual`.
pub mod Second
pub mod View
