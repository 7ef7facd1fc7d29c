pub mod Parsed
pub mod Settled
