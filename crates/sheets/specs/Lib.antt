pub mod Records
pub mod Sheets
pub mod Notes
pub mod Worked
