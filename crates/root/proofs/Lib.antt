-- What the proofs share: first the code's arithmetic, then what it means for doubles, then the theorems and laws of the root.
pub mod Squares
pub mod LastDigits
pub mod FourRoots
pub mod Closest
pub mod Rounding
pub mod NoNan
pub mod Patterns
pub mod Scaling
pub mod Doubles
pub mod Range
pub mod RootPattern
pub mod Edges
pub mod Middles
pub mod Nearest
pub mod Laws
pub mod Examples
