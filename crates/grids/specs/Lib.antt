pub mod Grid
pub mod Base
pub mod Plans
pub mod Worked
