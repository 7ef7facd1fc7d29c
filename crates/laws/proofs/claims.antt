pub mod Decided
pub mod AnyOrder
pub mod Instances
pub mod NumbersTaken
