pub mod Reads
pub mod Openings
pub mod Answers
