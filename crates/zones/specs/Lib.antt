-- Kept == what a call leaves of the rooms that it is not lent
pub mod Kept
