-- What the programs print.
pub mod Bits
