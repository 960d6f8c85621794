mod Cutting
mod Ending
pub mod Reading
