-- The search finds the span, and the only one.
pub mod Spans
pub mod Tried
