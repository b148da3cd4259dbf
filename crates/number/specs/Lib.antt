-- What only this crate's own contracts cite.
pub mod Magnitude
