pub mod Fields
pub mod Numbering
pub mod Writing
pub mod Filed
