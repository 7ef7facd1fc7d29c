-- Waits == the bytes of a page that wait to be written
pub mod Waits
