pub mod Causes
pub mod Exact
