pub mod Existence
pub mod OneRead
