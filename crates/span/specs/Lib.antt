-- The span, as docs/RULES.md says it, and the search that finds it.
pub mod Span
pub mod Counting
pub mod Within
