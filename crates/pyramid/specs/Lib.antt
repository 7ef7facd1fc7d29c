pub mod Values
pub mod Settling
pub mod Steps
pub mod Costs
pub mod Checking
