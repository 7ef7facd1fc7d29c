pub mod Links
pub mod Checks
pub mod Running
