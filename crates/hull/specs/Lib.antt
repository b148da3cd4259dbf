-- The words of demand 3 (docs/RULES.md): doubles in whole units, the hull, what is asked of a curve and a parameter, and what is promised.
pub mod Units
pub mod Hull
pub mod Asked
pub mod Promise
