-- What a call leaves behind: a refusal with a lent slice, or with numbers.
pub mod Outcome
pub mod Told
