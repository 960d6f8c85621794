pub mod Thin
pub mod Schema
pub mod Reader
pub mod Reads
