pub mod Area
pub mod Load
pub mod Shape
pub mod Verdicts
