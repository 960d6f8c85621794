pub mod Loops
pub mod Lengths
pub mod Emitting
pub mod Bodies
pub mod Bounds
pub mod Comparing
pub mod Whole
pub mod Clauses
