pub mod BodyLines
pub mod ReadEnds
pub mod Settles
