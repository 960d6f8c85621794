pub mod Readers
pub mod Parts
pub mod Schemas
pub mod Classes
pub mod Follows
pub mod Complete
pub mod Grows
pub mod Verdicts
