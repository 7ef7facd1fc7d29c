pub mod Contractions
pub mod Kept
pub mod Steps
pub mod Numbers
pub mod Called
