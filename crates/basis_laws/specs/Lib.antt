-- The recursion that A2.3 stands for, and the arithmetic in which it does.
pub mod Recursion
