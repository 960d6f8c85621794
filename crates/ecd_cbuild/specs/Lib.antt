pub mod Chains
pub mod Lookup
pub mod Built
