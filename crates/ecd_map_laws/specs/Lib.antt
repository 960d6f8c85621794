pub mod Taken
pub mod Tables
pub mod Counts
pub mod Existence
pub mod Valid
pub mod Entries
