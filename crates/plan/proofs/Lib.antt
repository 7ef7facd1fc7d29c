pub mod Lines
pub mod Turned
pub mod Files
