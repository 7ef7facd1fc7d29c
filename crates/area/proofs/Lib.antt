pub mod Noting
pub mod OfKind
pub mod Parts
pub mod Tried
