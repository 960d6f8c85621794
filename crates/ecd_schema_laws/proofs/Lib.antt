mod Deciding
mod Least
mod Reaching
mod Naming
mod Breaking
mod Lexing
mod Shallow
mod Levels
mod Parsing
mod Judging
mod Thin
pub mod Compiling
