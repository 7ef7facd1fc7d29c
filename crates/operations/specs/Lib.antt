pub mod Back
pub mod Count
pub mod Cycles
pub mod Edge
pub mod Operate
pub mod Replay
pub mod Trees
