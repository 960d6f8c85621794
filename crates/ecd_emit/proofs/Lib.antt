pub mod Windows
pub mod Kept
pub mod Placed
pub mod Stopping
pub mod Writing
