-- Report == what program `levels` reports of a file
pub mod Report
