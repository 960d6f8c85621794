pub mod Files
pub mod Runs
pub mod Readers
pub mod Commands
