pub mod Shorthands
pub mod Variables
pub mod Windows
pub mod Writes
pub mod Among
