-- The rows of coefficients of the code, as the definitions see them. The definitions are those of the crate `basis`, over any scalar.
pub mod View
