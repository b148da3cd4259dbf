-- What is read of a value that lies in a cell, and what a cell that is written makes of all cells.
pub mod Values
pub mod Cells
