-- The curve record, and what a build of one answers.
pub mod Record
pub mod Build
pub mod Making
