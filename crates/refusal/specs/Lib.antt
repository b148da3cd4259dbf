-- Refusals, and tables of them.
pub mod Refusals
