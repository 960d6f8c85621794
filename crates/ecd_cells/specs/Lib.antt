pub mod Paths
pub mod Structs
pub mod Reads
pub mod Laws
