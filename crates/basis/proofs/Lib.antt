-- What the proofs of the code share, what code reads, the laws of the window, and worked values.
pub mod Small
pub mod InTable
pub mod Laws
pub mod Within
pub mod Window
pub mod Examples
