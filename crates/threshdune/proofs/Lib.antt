-- What C gets from one function, another accepts; knots that are not given.
pub mod Moved
pub mod Ungiven
