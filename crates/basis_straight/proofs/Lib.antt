-- The values and the second derivatives of the basis without its table.
pub mod Written
