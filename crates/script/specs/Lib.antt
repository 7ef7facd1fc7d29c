-- Words == what the words of a line say: a command, how many numbers it takes, a number
-- Checks == the checksums
pub mod Words
pub mod Checks
