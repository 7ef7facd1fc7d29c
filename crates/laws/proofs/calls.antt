pub mod Cleared
pub mod Judging
pub mod Outcomes
pub mod Numbers
