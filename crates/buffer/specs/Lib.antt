-- What a lent slice holds after numbers were put into it.
pub mod Pasted
