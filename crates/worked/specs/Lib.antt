pub mod Chain
pub mod Lookups
