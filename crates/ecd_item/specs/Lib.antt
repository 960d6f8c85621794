pub mod Told
pub mod Valid
pub mod Writing
