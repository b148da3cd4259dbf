-- What the sheet program answers.
pub mod Reply
