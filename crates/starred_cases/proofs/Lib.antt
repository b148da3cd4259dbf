-- The rules' "Numbers to check by", the starred ones.
pub mod Starred
