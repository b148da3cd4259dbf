-- What is printed of a sheet.
pub mod Printed
pub mod Curves
pub mod Answer
pub mod Put
pub mod Promise
