-- One rounding and the operations in units; the weights of A2.3 and the sum of products, in whole numbers; where nothing overflows; the knots
-- around a span; the definition's row 0; and the two theorems of demand 3 (docs/RULES.md), which are in Theorems.
pub mod Rounding
pub mod Operations
pub mod NotBelow
pub mod NoOverflow
pub mod Reading
pub mod Numbers
pub mod Steps
pub mod Weights
pub mod Sums
pub mod Around
pub mod FiniteWeights
pub mod FinitePoint
pub mod Given
pub mod SixKnots
pub mod RowZero
pub mod FourPoints
pub mod Coordinate
pub mod Theorems
pub mod Examples
