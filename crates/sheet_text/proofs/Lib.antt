-- What the proofs of the functions share.
pub mod Front
pub mod Made
pub mod Putting
pub mod Lines
pub mod Sheets
pub mod Decimals
pub mod Promises
