-- The laws of an order of rows.
pub mod Orders
