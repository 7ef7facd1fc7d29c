-- Parts == what a worked example says of a call, part by part
pub mod Parts
-- Computed == the rows, by computation
pub mod Computed
-- Found == the worked lookups, part by part, and by computation
pub mod Found
