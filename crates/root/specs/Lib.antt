-- What the crate's own contracts speak of, beside `meaning`'s definition of the root.
pub mod Pattern
