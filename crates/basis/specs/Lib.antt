-- Algorithm A2.3 for cubics over any scalar: its columns, its table, its derivatives, and the basis made of them.
pub mod Triangle
pub mod Derivatives
pub mod Basis
