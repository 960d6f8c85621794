pub mod Readers
pub mod Loops
