-- Hanging == one number of a forest is hung under another
pub mod Hanging
pub mod Joins
