pub mod Held
pub mod Limits
pub mod Made
pub mod Passes
pub mod Same
pub mod Turns
