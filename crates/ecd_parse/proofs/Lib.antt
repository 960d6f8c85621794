pub mod Tokens
pub mod Loops
pub mod Parts
pub mod Counts
pub mod Verdicts
