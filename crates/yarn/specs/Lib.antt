pub mod Places
pub mod Given
pub mod Calls
pub mod Totals
pub mod Rows
pub mod OnT
pub mod Worked
