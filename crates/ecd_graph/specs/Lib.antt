pub mod Graphs
pub mod Edges
pub mod Chains
pub mod Searches
pub mod Spreads
