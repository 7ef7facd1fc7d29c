pub mod Over
pub mod Part
pub mod Laid
pub mod Put
