-- The laws of tests, of loops and searches, of lists filled by index, of the order of doubles, of sizes, zeros and whole numbers among them, and of
-- operations on values that are given as fractions.
pub mod Tests
pub mod For
pub mod While
pub mod Searching
pub mod Every
pub mod Filling
pub mod Made
pub mod Pasting
pub mod Order
pub mod Nans
pub mod Sizes
pub mod Whole
pub mod Zeros
pub mod Values
