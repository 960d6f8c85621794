pub mod Comparing
pub mod Literal
pub mod Copying
