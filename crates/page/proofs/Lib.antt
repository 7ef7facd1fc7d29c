-- Turned == a negative number and its magnitude
pub mod Turned
