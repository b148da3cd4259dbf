-- What A2.3 means in exact arithmetic: consequences of the laws of a field, a field that has them, the values, the coefficients, the recursion's quotients,
-- and the law that they make up.
pub mod Field
pub mod Parity
pub mod Values
pub mod Orders
pub mod Derived
pub mod Meaning
