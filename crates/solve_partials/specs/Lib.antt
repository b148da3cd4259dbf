-- The solve of rows of values with partials in lent slices.
pub mod Sweep
pub mod Held
pub mod Store
pub mod Outcome
pub mod View
