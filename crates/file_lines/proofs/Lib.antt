pub mod After
pub mod Byte
pub mod KernelLines
pub mod LastPairs
pub mod Number
pub mod PairLines
pub mod Rest
pub mod Word
