-- Many questions in one call.
pub mod Many
