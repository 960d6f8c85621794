pub mod Safety
pub mod Stuck
pub mod Deepest
pub mod Ranges
