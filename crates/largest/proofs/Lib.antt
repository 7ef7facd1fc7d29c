pub mod Longest
pub mod Largest
