pub mod Limits
pub mod Prepared
pub mod Rising
pub mod Ways
