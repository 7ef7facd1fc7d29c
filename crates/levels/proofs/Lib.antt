-- LevelCounts == the counts of a level of a file are the same whatever stood in the tables
-- ReportLines == what the calls leave is what the lines of the report may say
pub mod LevelCounts
pub mod ReportLines
