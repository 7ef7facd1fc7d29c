pub mod Accepting
pub mod Labelling
pub mod Looking
pub mod Passing
pub mod Shapes
pub mod Tight
pub mod Walks
