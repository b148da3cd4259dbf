-- Laws of a solve that no code of it needs: numbers that compare equal to 0, systems that are refused, that an accepted answer is finite,
-- and that a multiplier which is not finite shows.
pub mod Zeros
pub mod Refused
pub mod Twins
pub mod Fine
pub mod Multipliers
