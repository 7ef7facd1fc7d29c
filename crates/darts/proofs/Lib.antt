pub mod Bits
pub mod Cases
pub mod Fitting
