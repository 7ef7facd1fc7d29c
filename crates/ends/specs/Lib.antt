pub mod Ends
pub mod Walk
pub mod Comes
pub mod Lookup
pub mod Worked
