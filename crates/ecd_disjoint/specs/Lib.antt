pub mod Counts
pub mod Ends
pub mod Inside
pub mod Leaves
pub mod Misses
pub mod Spans
