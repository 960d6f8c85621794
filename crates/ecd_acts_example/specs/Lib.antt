pub mod Comparison
pub mod Literal
