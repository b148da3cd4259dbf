-- A curve's numbers in the rooms of a record.
pub mod Filled
