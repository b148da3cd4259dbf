-- The one build of every form.
pub mod Build
