-- The solve: rows, pivots, the elimination, back substitution, what is stored, and what a solve in a lent buffer leaves.
pub mod Rows
pub mod Left
pub mod Placed
pub mod Pivot
pub mod Best
pub mod Elimination
pub mod Substitution
pub mod Stored
pub mod Verdicts
pub mod Outcome
pub mod View
pub mod Store
pub mod Buffer
