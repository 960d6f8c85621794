pub mod Heaviest
pub mod Lookup
pub mod Built
pub mod Extended
