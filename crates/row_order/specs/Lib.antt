-- An order of rows.
pub mod Order
