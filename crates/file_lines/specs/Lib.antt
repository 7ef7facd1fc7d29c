pub mod Found
pub mod Kernels
pub mod Lines
pub mod Pairs
