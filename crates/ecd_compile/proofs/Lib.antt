pub mod ByteReader
pub mod LoneRule
pub mod Causes
pub mod Exact
pub mod Numbers
