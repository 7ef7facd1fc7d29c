pub mod Held
pub mod Runs
pub mod Back
pub mod Counted
pub mod Checks
